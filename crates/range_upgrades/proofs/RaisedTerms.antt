-- Raising the terms of an alternative one by one.
use Rattle.std.proofs.Common.{◌≡◌, ℕ, List, [], ◌∷◌, ◌++◌, ap, refl, sym, subst, ◌∙◌, append_assoc, inl, inr}
use Rattle.std.specs.Prelude.{Some}
use Rattle.semver_texts.specs.Texts.{Text}
use Rattle.semver_versions.specs.VersionRefs.{VersionRefValue}
use Rattle.semver_ranges.specs.declared.dialect.Dialect.{Dialect}
use Rattle.range_terms.specs.WrittenTerms.{WrittenTerm}
use Rattle.range_upgrades.specs.RaisedRanges.{IsPart, IsRaised, IsRaisedFrom, IsToRaise, last_version, raised_word}
use Rattle.range_upgrades.specs.RaisedVersions.{HasRaised}
use Rattle.range_upgrades.specs.declared.alternatives.Alternative.{Alternative}
use Rattle.range_upgrades.specs.declared.raised_versions.Form.{Form}

-- an offset divides the raised text into what was written and what is right for the terms that are
-- left
pub record Goes (d : Dialect) (form : Form) (t : Text) (v : VersionRefValue) (last : Alternative) (all : List WrittenTerm) (done : Text) (at : ℕ)
    (left : List WrittenTerm) : Type 0 where
  pub to : (rest : Text) → IsRaisedFrom d form t v last at left rest → IsRaised d form t v last all (done ++ rest)
  pub only : (s : Text) → IsRaised d form t v last all s → (rest : Text) × IsRaisedFrom d form t v last at left rest × (s ≡ done ++ rest)

regroup : (a b c e : Text) → (a ++ (b ++ c)) ++ e ≡ a ++ (b ++ (c ++ e))
regroup a b c e = simp append_assoc

pub some_is : {A : Type 0} {a b : A} → Some a ≡ Some b → a ≡ b
some_is e = cc

pub one_part : {t : Text} {start end : ℕ} {a b : Text} → IsPart t start end a → IsPart t start end b → a ≡ b
one_part p q = p.is ∙ sym q.is

module _ (d : Dialect) (form : Form) (t : Text) (v : VersionRefValue) (last : Alternative) (all : List WrittenTerm) where
  pub goes_first : (left : List WrittenTerm) (done : Text) → done ≡ [] → left ≡ all → Goes d form t v last all done last.start left
  goes_first left done none is = record {
    to = λ rest from. subst (λ bytes. IsRaised d form t v last all (bytes ++ rest)) (sym none)
        (subst (λ xs. IsRaisedFrom d form t v last last.start xs rest) is from);
    only = λ s from. (
      s,
      subst (λ xs. IsRaisedFrom d form t v last last.start xs s) (sym is) from,
      ap (λ bytes. bytes ++ s) (sym none),
    );
  }

  -- a term that isn't raised
  past : (at : ℕ) (x : WrittenTerm) (xs : List WrittenTerm) (s : Text) → ¬ (IsToRaise d t v last x) → IsRaisedFrom d form t v last at (x ∷ xs) s
      → IsRaisedFrom d form t v last at xs s
  past at x xs s not (inl kept) = kept.1
  past at x xs s not (inr raised) = absurd (not raised.2)

  pub goes_past : (done : Text) (at : ℕ) (x : WrittenTerm) (left xs : List WrittenTerm) → left ≡ x ∷ xs → ¬ (IsToRaise d t v last x)
      → Goes d form t v last all done at left → Goes d form t v last all done at xs
  goes_past done at x left xs is not goes = record {
    to = λ rest from. goes.to rest (subst (λ ys. IsRaisedFrom d form t v last at ys rest) (sym is) (inl (not, from)));
    only = λ s from. let found = goes.only s from in
        (found.0, past at x xs found.0 not (subst (λ ys. IsRaisedFrom d form t v last at ys found.0) is found.1), found.2);
  }

  -- a term that is raised
  abbrev Raised : ℕ → WrittenTerm → List WrittenTerm → Text → Type 0
  Raised at x xs s = (kept : Text) × (rest : Text) × IsToRaise d t v last x × HasRaised x.operator (last_version x) v
      × IsPart t at (last_version x).span.start kept × IsRaisedFrom d form t v last (last_version x).span.end xs rest
      × (s ≡ kept ++ (raised_word d form v x ++ rest))

  raised : (at : ℕ) (x : WrittenTerm) (xs : List WrittenTerm) (s : Text) → IsToRaise d t v last x → IsRaisedFrom d form t v last at (x ∷ xs) s
      → Raised at x xs s
  raised at x xs s is (inl kept) = absurd (kept.0 is)
  raised at x xs s is (inr found) = found

  pub goes_on : (done new kept : Text) (at : ℕ) (x : WrittenTerm) (left xs : List WrittenTerm) → left ≡ x ∷ xs → IsToRaise d t v last x
      → HasRaised x.operator (last_version x) v → IsPart t at (last_version x).span.start kept
      → new ≡ done ++ (kept ++ raised_word d form v x)
      → Goes d form t v last all done at left → Goes d form t v last all new (last_version x).span.end xs
  goes_on done new kept at x left xs is raise has part made goes = record {
    to = λ rest from.
        subst (IsRaised d form t v last all) (sym (ap (λ bytes. bytes ++ rest) made ∙ regroup done kept (raised_word d form v x) rest))
        (goes.to (kept ++ (raised_word d form v x ++ rest))
        (subst (λ ys. IsRaisedFrom d form t v last at ys (kept ++ (raised_word d form v x ++ rest))) (sym is)
        (inr (kept, rest, raise, has, part, from, refl))));
    only = λ s from.
        let found = goes.only s from in
        let here = raised at x xs found.0 raise (subst (λ ys. IsRaisedFrom d form t v last at ys found.0) is found.1) in (
          here.1,
          here.5,
          found.2 ∙ ap (λ bytes. done ++ bytes) (here.6 ∙ ap (λ bytes. bytes ++ (raised_word d form v x ++ here.1)) (one_part here.4 part))
              ∙ sym (ap (λ bytes. bytes ++ here.1) made ∙ regroup done kept (raised_word d form v x) here.1),
        );
  }

  -- no string is right if a term can't be raised
  pub stops : (done : Text) (at : ℕ) (x : WrittenTerm) (left xs : List WrittenTerm) → left ≡ x ∷ xs → IsToRaise d t v last x
      → Goes d form t v last all done at left
      → (HasRaised x.operator (last_version x) v → (kept : Text) → ¬ (IsPart t at (last_version x).span.start kept))
      → (s : Text) → ¬ (IsRaised d form t v last all s)
  stops done at x left xs is raise goes not s from =
      let found = goes.only s from in
      let here = raised at x xs found.0 raise (subst (λ ys. IsRaisedFrom d form t v last at ys found.0) is found.1) in
      not here.3 here.0 here.4

  -- no term is left
  pub goes_last : (done kept : Text) (at : ℕ) (left : List WrittenTerm) → left ≡ [] → IsPart t at last.end kept
      → Goes d form t v last all done at left → IsRaised d form t v last all (done ++ kept)
  goes_last done kept at left none part goes = goes.to kept (subst (λ ys. IsRaisedFrom d form t v last at ys kept) (sym none) part)

  pub only_last : (done kept : Text) (at : ℕ) (left : List WrittenTerm) → left ≡ [] → IsPart t at last.end kept
      → Goes d form t v last all done at left → (s : Text) → IsRaised d form t v last all s → s ≡ done ++ kept
  only_last done kept at left none part goes s from =
      let found = goes.only s from in
      let rest = subst (λ ys. IsRaisedFrom d form t v last at ys found.0) none found.1 in
      found.2 ∙ ap (λ bytes. done ++ bytes) (one_part rest part)

  pub none_last : (done : Text) (at : ℕ) (left : List WrittenTerm) → left ≡ [] → ((kept : Text) → ¬ (IsPart t at last.end kept))
      → Goes d form t v last all done at left → (s : Text) → ¬ (IsRaised d form t v last all s)
  none_last done at left none not goes s from =
      let found = goes.only s from in
      not found.0 (subst (λ ys. IsRaisedFrom d form t v last at ys found.0) none found.1)
