-- The parts and dots at the beginning of a text, as the code reads them byte by byte.
use Rattle.std.proofs.Common.{◌≡◌, ℕ, Bool, true, Some, None, [], ◌∷◌, take, drop, refl}
use Rattle.std.proofs.Common.{arith, one-add}
use Rattle.std.specs.List.{list_all, prefix_len, slice_split}
use Rattle.semver_texts.specs.Texts.{Text, cut_at_dots, is_part, is_dot, is_dotted_byte}
use Rattle.semver_texts.specs.declared.dotted.Hyphens.TheVariants.{Any}
use Rattle.semver_texts.specs.Steps.DottedParts.{marked_part}
use Rattle.semver_texts.proofs.Lists.{by_test}
use Rattle.semver_texts.proofs.PartRuns.{runs_ahead}
use Rattle.semver_ranges.specs.Steps.Reading.{front, back}
use Rattle.semver_ranges.specs.Steps.CursorViews.{marked_parts}

-- `front` is the text before the first byte that fails p, and `back` is the text from that byte on
front_taken : (p : ℕ → Bool) (t : Text) → (front p t ≡ take (prefix_len p t) t) × (back p t ≡ drop (prefix_len p t) t)
front_taken p [] = (refl, refl)
front_taken p (b ∷ t) = let rest = front_taken p t in
    by_test (p b) (λ y. rw (y, one-add, rest.0, rest.1) (refl, refl)) (λ n. rw n (refl, refl))

some_parts : (t : Text) → list_all is_part (slice_split is_dot t) ≡ true → slice_split is_dot t ≡ cut_at_dots t
some_parts [] e = cc
some_parts (b ∷ t) e = refl

-- ---- the parts after a mark

pub parts_found : (mark : ℕ) (t inner rest : Text) → marked_part Any mark t ≡ Some (inner, rest)
    → (marked_parts mark t ≡ Some (cut_at_dots inner, rest)) × (list_all is_part (cut_at_dots inner) ≡ true)
parts_found mark [] inner rest e = grind arith
parts_found mark (b ∷ t) inner rest e =
    grind (arith, runs_ahead t, front_taken is_dotted_byte t, some_parts (front is_dotted_byte t))

pub parts_not_found : (mark : ℕ) (t : Text) → marked_part Any mark t ≡ None → marked_parts mark t ≡ None
parts_not_found mark [] e = cc
parts_not_found mark (b ∷ t) e = grind (arith, runs_ahead t, front_taken is_dotted_byte t)
