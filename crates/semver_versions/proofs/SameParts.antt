-- Two versions are equal in their order if and only if they have the same parts.
use Rattle.std.proofs.Common.{◌≡◌, ◌↔◌, Bool, true, false, map, refl, sym, ap, ◌∙◌}
use Rattle.std.specs.Cmp.Lexicographic.{slice_cmp}
use Rattle.std.specs.Ordering.{eq_by_cmp, is_eq, nat_cmp, ordering_then}
use Rattle.std.specs.declared.cmp.Ordering.{Ordering}
use Rattle.std.specs.declared.cmp.Ordering.TheVariants.{Less, Equal, Greater}
use Rattle.std.proofs.lemmas.Cmp.{tied_itself}
use Rattle.semver_texts.specs.Digits.{identifiers_by}
use Rattle.semver_texts.specs.Precedence.{precedence}
use Rattle.semver_texts.specs.Texts.{cut_at_dots}
use Rattle.semver_texts.specs.declared.grammar.Digits.TheVariants.{AnySize}
use Rattle.semver_versions.specs.Steps.OrderLaws.{order_total}
use Rattle.semver_versions.specs.Steps.SameParts.{is_tie, to_parts}
use Rattle.semver_versions.specs.VersionOrder.{HaveSameParts, order, semver_of}
use Rattle.semver_versions.specs.VersionRefs.{VersionRefValue, identifier_of}

pub from_parts : (a b : VersionRefValue) → HaveSameParts a b → order a b ≡ Equal
from_parts a b h =
    let plain : semver_of a ≡ semver_of b = λ i. record {
      major = h.major i;
      minor = h.minor i;
      patch = h.patch i;
      pre = identifiers_by AnySize (map identifier_of (cut_at_dots (h.pre i)));
    } in
    let same : order a b ≡ order b b = λ i. ordering_then (precedence (plain i) (semver_of b))
    (ordering_then (slice_cmp nat_cmp (h.pre i) b.pre) (slice_cmp nat_cmp (h.build i) b.build)) in
    same ∙ tied_itself order_total b

ties : (o : Ordering) → o ≡ Equal → true ≡ is_eq o
ties o e = ap is_eq (sym e)

apart : (o : Ordering) → (is_eq o ≡ true → false ≡ true) → false ≡ is_eq o
apart Less h = refl
apart Equal h = h refl
apart Greater h = refl

-- what is true if and only if two versions have the same parts says whether they are equal
pub decided : (a b : VersionRefValue) (same : Bool) → (same ≡ true) ↔ HaveSameParts a b → same ≡ eq_by_cmp order a b
decided a b true h = ties (order a b) (from_parts a b (h.0 refl))
decided a b false h = apart (order a b) (λ e. h.1 (to_parts a b (is_tie (order a b) e)))
