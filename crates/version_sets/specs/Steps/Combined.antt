-- A means of proof: the combination of two lists of boundaries.
use Rattle.std.specs.Prelude.{Bool, false, List}
use Rattle.std.specs.List.{list_any}
use Rattle.semver_texts.specs.Versions.{PlainVersion}
use Rattle.semver_texts.specs.Precedence.{precedence}
use Rattle.version_sets.specs.declared.set_operations.Combination.{Combination}
use Rattle.version_sets.specs.Combinations.{keeps}
use Rattle.version_sets.specs.VersionSets.{SetValue}
use Rattle.version_sets.specs.Steps.Sweeps.{PieceValue, sweep, changes}

abbrev pub pieces : List PlainVersion → List PlainVersion → List (PieceValue PlainVersion)
pieces xs ys = sweep precedence xs false false ys

abbrev pub keeps_some : Combination → List (PieceValue PlainVersion) → Bool
keeps_some how ps = list_any (λ p. keeps how p.in_first p.in_second) ps

abbrev pub combined : Combination → List (PieceValue PlainVersion) → List PlainVersion
combined how ps = changes (keeps how) false ps

-- the combination of two sets, made for each kind of versions
abbrev pub combined_sets : Combination → SetValue → SetValue → SetValue
combined_sets how a b = record {
  releases = combined how (pieces a.releases b.releases);
  pre_releases = combined how (pieces a.pre_releases b.pre_releases);
  digits = a.digits;
}
