-- Sets that `==` finds equal have the same boundaries, so their hashes are the same: a means of
-- proof, for `Hash`.
use Rattle.std.specs.Prelude.{◌≡◌, ◌++◌, true, IsTrue, List, [], ◌∷◌, flat_map}
use Rattle.std.specs.Cmp.Lexicographic.{pointwise}
use Rattle.std.specs.Hash as fed
use Rattle.std.specs.Ordering.{eq_by_cmp}
use Rattle.std.proofs.Common.{refl}
use Rattle.std.proofs.lemmas.Bool.{and_parts}
use Rattle.semver_texts.specs.Precedence.{precedence}
use Rattle.semver_texts.specs.Versions.{PlainVersion}
use Rattle.semver_texts.specs.Steps.PrecedenceLaws.{precedence-same}
use Rattle.semver_versions.specs.Steps.SameParts.{is_tie}
use Rattle.version_sets.specs.HashedSets.{hashed_numbers, hashed_set}
use Rattle.version_sets.specs.VersionSets.{SetValue, same_digits, same_set}

same_lists : (xs ys : List PlainVersion) → pointwise (eq_by_cmp precedence) xs ys ≡ true → xs ≡ ys
same_lists [] [] e = refl
same_lists [] (y ∷ ys) e = cc
same_lists (x ∷ xs) [] e = cc
same_lists (x ∷ xs) (y ∷ ys) e =
    let both = and_parts (eq_by_cmp precedence x y) (pointwise (eq_by_cmp precedence) xs ys) e in
    let first : x ≡ y = precedence-same x y (is_tie (precedence x y) both.0) in
    λ i. first i ∷ same_lists xs ys both.1 i

pub same_sets_hash_alike : (a b : SetValue) → IsTrue (same_set a b) → hashed_set a ≡ hashed_set b
same_sets_hash_alike a b e =
    let lists = (and_parts (same_digits a.digits b.digits) _ e).1 in
    let both = and_parts (pointwise (eq_by_cmp precedence) a.releases b.releases) _ lists in
    λ i. fed.slice hashed_numbers (same_lists a.releases b.releases both.0 i)
    ++ flat_map hashed_numbers (same_lists a.pre_releases b.pre_releases both.1 i)
