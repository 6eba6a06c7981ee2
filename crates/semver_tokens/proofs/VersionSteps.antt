-- The automaton that reads the shape of a version token by token.
use Rattle.std.proofs.Common.{◌≡◌, ℕ, ◌<◌, Bool, true, false, List, [], ◌∷◌, ◌++◌, length, Some, sym, refl, ap, ◌∙◌}
use Rattle.std.proofs.Common.{◌⊎◌, inl, inr, ⊎_elim, arith, append_assoc}
use Rattle.std.specs.Prelude.{IsTrue, flat_map}
use Rattle.std.specs.List.{AllByRecursion, join_by}
use Rattle.std.proofs.lemmas.Option.{same_Some, option_and_then_some}
use Rattle.semver_tokens.specs.Tokens.{TokenValue, Hyphen, Dot, Plus, Whitespace, Numeric, AlphaNumeric, is_component}
use Rattle.semver_tokens.specs.VersionReading.{IsIdentifierShape, IsPartShape, IsOuterShape, IsVersionShape}
use Rattle.semver_tokens.specs.Steps.Taking.{run, major, minor, patch, Part, pre_release, build, Place, start, at_number}
use Rattle.semver_tokens.specs.Steps.Taking.{after_number, at_run, after_run, end, step, accepts}
use Rattle.semver_tokens.proofs.ReadingSteps.{run-append, IsReadBy}
use Rattle.semver_tokens.proofs.IdentifierSteps.{id_step, one_run, run_more, identifier_is_read}

-- the position before a run of a part (false) or after it (true)
abbrev pub run_place : Part → Bool → Place
run_place part false = at_run part
run_place part true = after_run part

-- ---- identifiers joined by dots, from the left

-- identifiers, each after a dot
abbrev dotted : List (List TokenValue) → List TokenValue
dotted ids = flat_map (λ id. Dot ∷ id) ids

record AreIds (ts : List TokenValue) : Type 0 where
  first : List TokenValue
  ids : List (List TokenValue)
  first_is : IsIdentifierShape first
  each : AllByRecursion IsIdentifierShape ids
  is : ts ≡ first ++ dotted ids

ids_one : (t : TokenValue) → IsTrue (is_component t) → AreIds (t ∷ [])
ids_one t h = record { first = t ∷ []; ids = []; first_is = one_run t h; each = tt; is = refl }

ids_hyphen : (ts : List TokenValue) → AreIds ts → (t : TokenValue) → IsTrue (is_component t) → AreIds (t ∷ Hyphen ∷ ts)
ids_hyphen ts a t h =
    record {
      first = t ∷ Hyphen ∷ a.first;
      ids = a.ids;
      first_is = run_more t h a.first_is;
      each = a.each;
      is = ap (λ l. t ∷ Hyphen ∷ l) a.is;
    }

ids_dot : (ts : List TokenValue) → AreIds ts → (t : TokenValue) → IsTrue (is_component t) → AreIds (t ∷ Dot ∷ ts)
ids_dot ts a t h =
    record {
      first = t ∷ [];
      ids = a.first ∷ a.ids;
      first_is = one_run t h;
      each = (a.first_is, a.each);
      is = ap (λ l. t ∷ Dot ∷ l) a.is;
    }

ids_part : (sign : TokenValue) (ts : List TokenValue) → AreIds ts → IsPartShape sign (sign ∷ ts)
ids_part sign ts a =
    record { ids = a.first ∷ a.ids; each = (a.first_is, a.each); parted = inr (omega arith, ap (λ l. sign ∷ l) a.is) }

no_part : (sign : TokenValue) → IsPartShape sign []
no_part sign = record { ids = []; each = tt; parted = inl (refl, refl) }

-- ---- the parts of an accepted list of tokens

-- before a run (false), the tokens are identifiers joined by dots; after a run (true), they are so
-- together with any run before them
abbrev CompletesIds : Bool → List TokenValue → Type 0
CompletesIds false ts = AreIds ts
CompletesIds true ts = (t : TokenValue) → IsTrue (is_component t) → AreIds (t ∷ ts)

-- the tokens that may follow the identifiers of a part
data Follows (u : Place) : Part → List TokenValue → Type 0 where
  nothing : (part : Part) → Follows u part []
  space : (part : Part) (a b : ℕ) (ts : List TokenValue) → run step end ts ≡ Some u → Follows u part (Whitespace a b ∷ ts)
  plus : (ts : List TokenValue) → run step (at_run build) ts ≡ Some u → Follows u pre_release (Plus ∷ ts)

record IsPartRest (u : Place) (part : Part) (after : Bool) (ts : List TokenValue) : Type 0 where
  ids : List TokenValue
  rest : List TokenValue
  on : CompletesIds after ids
  follows : Follows u part rest
  is : ts ≡ ids ++ rest

rest_ends : {u : Place} {part : Part} {ts : List TokenValue} → Follows u part ts → IsPartRest u part true ts
rest_ends {ts = ts} follows = record { ids = []; rest = ts; on = ids_one; follows = follows; is = refl }

rest_more : {u : Place} {part : Part} {before after : Bool} {ts : List TokenValue} (t : TokenValue)
    → ((ids : List TokenValue) → CompletesIds after ids → CompletesIds before (t ∷ ids)) → IsPartRest u part after ts
    → IsPartRest u part before (t ∷ ts)
rest_more t on r =
    record { ids = t ∷ r.ids; rest = r.rest; on = on r.ids r.on; follows = r.follows; is = ap (λ l. t ∷ l) r.is }

part_rest : (part : Part) (after : Bool) (ts : List TokenValue) (u : Place) → accepts u ≡ true
    → run step (run_place part after) ts ≡ Some u → IsPartRest u part after ts
part_rest part false [] u ok e = cc
part_rest part false (Numeric n ∷ ts) u ok e = rest_more (Numeric n) (λ ids on. on (Numeric n) refl) (part_rest part true ts u ok e)
part_rest part false (AlphaNumeric s ∷ ts) u ok e =
    rest_more (AlphaNumeric s) (λ ids on. on (AlphaNumeric s) refl) (part_rest part true ts u ok e)
part_rest part false (_ ∷ ts) u ok e = cc
part_rest part true [] u ok e = rest_ends (nothing part)
part_rest part true (Hyphen ∷ ts) u ok e = rest_more Hyphen ids_hyphen (part_rest part false ts u ok e)
part_rest part true (Dot ∷ ts) u ok e = rest_more Dot ids_dot (part_rest part false ts u ok e)
part_rest part true (Whitespace a b ∷ ts) u ok e = rest_ends (space part a b ts e)
part_rest pre_release true (Plus ∷ ts) u ok e = rest_ends (plus ts e)
part_rest part true (_ ∷ ts) u ok e = cc

space_rest : (u : Place) (a b : ℕ) (ts : List TokenValue) → run step end ts ≡ Some u → IsOuterShape (Whitespace a b ∷ ts)
space_rest u a b [] e = (omega arith, (refl, tt))
space_rest u a b (t ∷ ts) e = cc

outer_rest : (u : Place) (part : Part) (ts : List TokenValue) → Follows u part ts → part ≡ build → IsOuterShape ts
outer_rest u _ _ (nothing part) is = (omega arith, tt)
outer_rest u _ _ (space part a b ts e) is = space_rest u a b ts e
outer_rest u _ _ (plus ts e) is = cc

-- a part, which may be missing, and the rest after it
record IsParted (sign : TokenValue) (Rest : List TokenValue → Type 0) (ts : List TokenValue) : Type 0 where
  part : List TokenValue
  rest : List TokenValue
  shape : IsPartShape sign part
  after : Rest rest
  is : ts ≡ part ++ rest

none_there : {sign : TokenValue} {Rest : List TokenValue → Type 0} {ts : List TokenValue} → Rest ts → IsParted sign Rest ts
none_there {sign} {Rest} {ts} after = record { part = []; rest = ts; shape = no_part sign; after = after; is = refl }

one_there : {u : Place} {part : Part} {Rest : List TokenValue → Type 0} {ts : List TokenValue} (sign : TokenValue)
    (r : IsPartRest u part false ts) → Rest r.rest → IsParted sign Rest (sign ∷ ts)
one_there sign r after =
    record { part = sign ∷ r.ids; rest = r.rest; shape = ids_part sign r.ids r.on; after = after; is = ap (λ l. sign ∷ l) r.is }

-- the build metadata and the white space after it; below, the pre-release before them
build_rest : (u : Place) → accepts u ≡ true → (part : Part) (ts : List TokenValue) → Follows u part ts → IsParted Plus IsOuterShape ts
build_rest u ok _ _ (nothing part) = none_there (omega arith, tt)
build_rest u ok _ _ (space part a b ts e) = none_there (space_rest u a b ts e)
build_rest u ok _ _ (plus ts e) =
    let r = part_rest build false ts u ok e in one_there Plus r (outer_rest u build r.rest r.follows refl)

patch_rest : (ts : List TokenValue) (u : Place) → accepts u ≡ true → run step (after_number patch) ts ≡ Some u
    → IsParted Hyphen (IsParted Plus IsOuterShape) ts
patch_rest (Hyphen ∷ ts) u ok e =
    let r = part_rest pre_release false ts u ok e in one_there Hyphen r (build_rest u ok pre_release r.rest r.follows)
patch_rest [] u ok e = none_there (build_rest u ok pre_release [] (nothing pre_release))
patch_rest (Plus ∷ ts) u ok e = none_there (build_rest u ok pre_release _ (plus ts e))
patch_rest (Whitespace a b ∷ ts) u ok e = none_there (build_rest u ok pre_release _ (space pre_release a b ts e))
patch_rest (_ ∷ ts) u ok e = cc

-- the three numbers, and the rest after them
numbers_rest : (ts : List TokenValue) (u : Place) → accepts u ≡ true → run step (at_number major) ts ≡ Some u
    → (a b c : ℕ) × (rest : List TokenValue) × (ts ≡ Numeric a ∷ Dot ∷ Numeric b ∷ Dot ∷ Numeric c ∷ rest)
    × (run step (after_number patch) rest ≡ Some u)
numbers_rest (Numeric a ∷ Dot ∷ Numeric b ∷ Dot ∷ Numeric c ∷ rest) u ok e = (a, b, c, rest, refl, e)
numbers_rest _ u ok e = cc

regroup : (a b c d e : List TokenValue) → a ++ (b ++ (c ++ (d ++ e))) ≡ (((a ++ b) ++ c) ++ d) ++ e
regroup a b c d e = sym (simp append_assoc)

major_rest : (before : List TokenValue) → IsOuterShape before → (ts : List TokenValue) (u : Place) → accepts u ≡ true
    → run step (at_number major) ts ≡ Some u → IsVersionShape (before ++ ts)
major_rest before outer ts u ok e =
    let n = numbers_rest ts u ok e in
    let r = patch_rest n.3 u ok n.5 in
    record {
      before = before;
      major = n.0;
      minor = n.1;
      patch = n.2;
      pre = r.part;
      build = r.after.part;
      after = r.after.rest;
      space_before = outer;
      pre_shape = r.shape;
      build_shape = r.after.shape;
      space_after = r.after.after;
      joined = cc (regroup before (Numeric n.0 ∷ Dot ∷ Numeric n.1 ∷ Dot ∷ Numeric n.2 ∷ []) r.part r.after.part r.after.rest);
    }

-- an accepted list of tokens has the shape of a version
version_shape : (ts : List TokenValue) (u : Place) → run step start ts ≡ Some u → accepts u ≡ true → IsVersionShape ts
version_shape ((Whitespace a b) ∷ ts) u e ok = major_rest (Whitespace a b ∷ []) (omega arith, (refl, tt)) ts u ok e
version_shape (Numeric n ∷ ts) u e ok = major_rest [] (omega arith, tt) (Numeric n ∷ ts) u ok e
version_shape _ u e ok = cc

-- ---- each list of the shape is accepted

-- tokens that lead on in an identifier lead on in a part
pub identifier_leads : (part : Part) (b v : Bool) (ts : List TokenValue) → run id_step b ts ≡ Some v
    → run step (run_place part b) ts ≡ Some (run_place part v)
identifier_leads part b v [] e = ap (λ x. Some (run_place part x)) (same_Some b v e)
identifier_leads part b v (t ∷ ts) e =
    option_and_then_some _ (id_step b t) v e (λ w here on. rw (token_leads b w t here) (identifier_leads part w v ts on))
  where
    token_leads : (b w : Bool) (t : TokenValue) → id_step b t ≡ Some w → step (run_place part b) t ≡ Some (run_place part w)
    token_leads false w (Numeric n) e = cc
    token_leads false w (AlphaNumeric n) e = cc
    token_leads false w _ e = cc
    token_leads true w Hyphen e = cc
    token_leads true w _ e = cc

module _ (part : Part) where
  id_leads : (id : List TokenValue) → IsIdentifierShape id → run step (at_run part) id ≡ Some (after_run part)
  id_leads id shape = let w = identifier_is_read.read id shape in identifier_leads part false true id (w.1 ∙ ap (λ b. Some b) w.2)

  dotted_lead : (ids : List (List TokenValue)) → AllByRecursion IsIdentifierShape ids
      → run step (after_run part) (dotted ids) ≡ Some (after_run part)
  dotted_lead [] all = refl
  dotted_lead (id ∷ ids) all = run-append step (at_run part) (after_run part) id (dotted ids) (id_leads id all.0) ∙ dotted_lead ids all.1

  ids_lead : (ids : List (List TokenValue)) → 0 < length ids → AllByRecursion IsIdentifierShape ids
      → run step (at_run part) (join_by (λ id. id) (Dot ∷ []) ids) ≡ Some (after_run part)
  ids_lead [] some all = absurd (omega (arith, some))
  ids_lead (id ∷ ids) some all = run-append step (at_run part) (after_run part) id (dotted ids) (id_leads id all.0) ∙ dotted_lead ids all.1

  -- a part leads to the position after a run, or is empty and stays at `from`
  part_leads : (sign : TokenValue) (from : Place) (ts : List TokenValue) → step from sign ≡ Some (at_run part) → IsPartShape sign ts
      → (run step from ts ≡ Some from) ⊎ (run step from ts ≡ Some (after_run part))
  part_leads sign from ts leads w =
      ⊎_elim (λ none. inl (rw none.1 refl)) (λ some. inr (rw (some.1, leads) (ids_lead w.ids some.0 w.each))) w.parted

-- the tokens lead from p to a position where a version may end
abbrev Ends : Place → List TokenValue → Type 0
Ends p ts = (u : Place) × (run step p ts ≡ Some u) × (accepts u ≡ true)

ends_more : (p q : Place) (front rest : List TokenValue) → run step p front ≡ Some q → Ends q rest → Ends p (front ++ rest)
ends_more p q front rest leads ends = (ends.0, run-append step p q front rest leads ∙ ends.1, ends.2)

-- at most one white space leads to a position where a version may end, if it may end before it, too
outer_ends : (from : Place) → ((a b : ℕ) → step from (Whitespace a b) ≡ Some end) → accepts from ≡ true → (ts : List TokenValue)
    → IsOuterShape ts → Ends from ts
outer_ends from leads ok [] outer = (from, refl, ok)
outer_ends from leads ok ((Whitespace a b) ∷ []) outer = (end, rw (leads a b) refl, refl)
outer_ends from leads ok (t ∷ []) outer = cc (outer.1.0)
outer_ends from leads ok (t ∷ x ∷ ts) outer = absurd (omega (arith, outer.0))

numbers_end : (before : List TokenValue) → IsOuterShape before → (a b c : ℕ) (rest : List TokenValue) → Ends (after_number patch) rest
    → Ends start (before ++ (Numeric a ∷ Dot ∷ Numeric b ∷ Dot ∷ Numeric c ∷ rest))
numbers_end [] outer a b c rest ends = ends
numbers_end ((Whitespace x y) ∷ []) outer a b c rest ends = ends
numbers_end (t ∷ []) outer a b c rest ends = cc (outer.1.0)
numbers_end (t ∷ x ∷ ts) outer a b c rest ends = absurd (omega (arith, outer.0))

version_ends : (ts : List TokenValue) → IsVersionShape ts → Ends start ts
version_ends ts w =
    rw (w.joined, ← regroup w.before (Numeric w.major ∷ Dot ∷ Numeric w.minor ∷ Dot ∷ Numeric w.patch ∷ []) w.pre w.build w.after)
    (numbers_end w.before w.space_before w.major w.minor w.patch _ (⊎_elim
    (λ no_pre. ends_more _ (after_number patch) w.pre _ no_pre (build_ends w (after_number patch) refl (λ a b. refl) refl))
    (λ pre. ends_more _ (after_run pre_release) w.pre _ pre (build_ends w (after_run pre_release) refl (λ a b. refl) refl))
    (part_leads pre_release Hyphen (after_number patch) w.pre refl w.pre_shape)))
  where
    build_ends : {ts : List TokenValue} (w : IsVersionShape ts) (p : Place) → step p Plus ≡ Some (at_run build)
        → ((a b : ℕ) → step p (Whitespace a b) ≡ Some end) → accepts p ≡ true → Ends p (w.build ++ w.after)
    build_ends w p sign white ok =
        ⊎_elim
        (λ no_build. ends_more p p w.build w.after no_build (outer_ends p white ok w.after w.space_after))
        (λ there. ends_more p (after_run build) w.build w.after there
        (outer_ends (after_run build) (λ a b. refl) refl w.after w.space_after))
        (part_leads build Plus p w.build sign w.build_shape)

version_live : (s : Place) → (more : List TokenValue) × (u : Place) × (run step s more ≡ Some u) × (accepts u ≡ true)
version_live start = (Numeric 0 ∷ Dot ∷ Numeric 0 ∷ Dot ∷ Numeric 0 ∷ [], after_number patch, refl, refl)
version_live (at_number major) = (Numeric 0 ∷ Dot ∷ Numeric 0 ∷ Dot ∷ Numeric 0 ∷ [], after_number patch, refl, refl)
version_live (at_number minor) = (Numeric 0 ∷ Dot ∷ Numeric 0 ∷ [], after_number patch, refl, refl)
version_live (at_number patch) = (Numeric 0 ∷ [], after_number patch, refl, refl)
version_live (after_number major) = (Dot ∷ Numeric 0 ∷ Dot ∷ Numeric 0 ∷ [], after_number patch, refl, refl)
version_live (after_number minor) = (Dot ∷ Numeric 0 ∷ [], after_number patch, refl, refl)
version_live (after_number patch) = ([], after_number patch, refl, refl)
version_live (at_run part) = (Numeric 0 ∷ [], after_run part, refl, refl)
version_live (after_run part) = ([], after_run part, refl, refl)
version_live end = ([], end, refl, refl)

pub version_is_read : IsReadBy step accepts start IsVersionShape
version_is_read = record {
  shape = version_shape;
  read = version_ends;
  wants = refl;
  live = version_live;
}
