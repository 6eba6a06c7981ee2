use Rattle.std.proofs.Common.{◌≡◌, ◌+◌, ◌++◌, ◌∷◌, [], ap, map, sym, take, take_all, ◌∙◌}
use Rattle.std.specs.Hash as fed
use Rattle.std.specs.Hash.{HashWrites}
use Rattle.std.specs.Prelude.{flat_map, fold}
use Rattle.std.proofs.lemmas.List.{flat_map_more, length-map, take_more}
use Rattle.std.proofs.lemmas.List.Folds.{flat_map-map}
use Rattle.std.proofs.lemmas.List.Sums.{fold-append}
use Rattle.semver_versions.specs.ReadVersions.{read_plain}
use Rattle.semver_versions.specs.declared.read_version.ReadVersion.{ReadVersion}
use Rattle.version_sets.specs.HashedSets.{hashed_numbers, hashed_set}
use Rattle.version_sets.specs.Releases.{release_value}
use Rattle.version_sets.proofs.hashing.VersionSetHash.hash.Goals as goal

-- what is written for a boundary of pre-releases
abbrev hashed_boundary : ReadVersion → HashWrites
hashed_boundary b = hashed_numbers (read_plain b)

pub loop-boundary-preserved : goal.loop-boundary-preserved
loop-boundary-preserved g c =
    let W = g.H.Hasher.write in
    let items = c.as_slice-boundary-items.result.now in
    let i = c.loop-boundary.boundary-index in
    let x = c.boundary-item.result in
    let more : flat_map hashed_boundary (take i items) ++ hashed_boundary x ≡ flat_map hashed_boundary (take (i + 1) items) =
    flat_map_more hashed_boundary [] (take i items) x
    ∙ ap (flat_map hashed_boundary) (ap (λ y. take i items ++ y ∷ []) c.boundary-item.is ∙ sym (take_more items i x c.loop-boundary-test.true)) in
    c.hash-in-loop-boundary.ensures
    ∙ ap (λ v. fold W c.loop-boundary.state (hashed_numbers v)) c.numbers.ensures
    ∙ ap (λ s. fold W s (hashed_boundary x)) c.loop-boundary.invariant
    ∙ sym (fold-append W c.hash.new.state (flat_map hashed_boundary (take i items)) (hashed_boundary x))
    ∙ ap (fold W c.hash.new.state) more

pub returns : goal.returns
returns g c =
    let W = g.H.Hasher.write in
    let s = c.args.state.now in
    let rs = c.self.inside.releases.items in
    let ps = c.self.inside.pre_releases.items in
    let items = c.as_slice-boundary-items.result.now in
    let i = c.loop-boundary.boundary-index in
    let releases : fed.slice (λ r. hashed_numbers (release_value r)) rs ≡ fed.slice hashed_numbers (map release_value rs) =
    λ i. fed.usize (sym (length-map rs release_value) i) ++ sym (flat_map-map hashed_numbers release_value rs) i in
    let pre_releases : flat_map hashed_boundary (take i items) ≡ flat_map hashed_numbers (map read_plain ps) =
    ap (flat_map hashed_boundary) (take_all i items c.loop-boundary-test.false ∙ c.as_slice-boundary-items.ensures.value)
    ∙ sym (flat_map-map hashed_numbers read_plain ps) in
    c.loop-boundary.invariant
    ∙ ap (λ t. fold W t (flat_map hashed_boundary (take i items))) (c.hash.ensures
    ∙ ap (λ xs. fold W s (fed.slice (λ r. hashed_numbers (release_value r)) xs)) c.as_slice.ensures.value ∙ ap (fold W s) releases)
    ∙ sym (fold-append W s (fed.slice hashed_numbers (map release_value rs)) (flat_map hashed_boundary (take i items)))
    ∙ ap (λ l. fold W s (fed.slice hashed_numbers (map release_value rs) ++ l)) pre_releases
    ∙ ap (λ set. fold W s (hashed_set set)) c.self.view_is
