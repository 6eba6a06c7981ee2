-- Prefixes of partial versions and their completions. A partial version is one to three components,
-- each from a set of texts of its own, and after three components there may be a suffix.
use Rattle.std.proofs.Common.{◌≡◌, ℕ, ◌⊎◌, inl, inr, true, List, [], ◌∷◌, ◌++◌, codes, refl, sym, ap, ◌∙◌, arith, append-nil}
use Rattle.std.proofs.Common.{append_assoc, subst}
use Rattle.std.proofs.lemmas.Bool.{and_parts, and_from}
use Rattle.std.specs.List.{list_all}
use Rattle.std.specs.Prelude.{◌&&◌}
use Rattle.semver_texts.specs.Texts.{Text, is_part, marked}
use Rattle.semver_ranges.specs.RangeTree.{one, two, three, SpellsPartial, is_component}
use Rattle.invalid_strings.proofs.Completions.{CompletesBy, Joined, Seq, both, byte_by, in_bytes, joined, optional, seq}

-- a mark, and identifiers joined by dots
abbrev pub Mark : ℕ → (Text → Type 0) → Text → Type 0
Mark mark P = Seq (λ x. x ≡ mark ∷ []) (Joined 46 P)

pub build_mark : {P : Text → Type 0} → CompletesBy in_bytes P (codes "a") ([] ∷ codes "a" ∷ [])
    → CompletesBy in_bytes (Mark 43 P) (codes "+a") (codes "a" ∷ codes "a" ∷ [] ∷ codes "a" ∷ [])
build_mark w = seq (byte_by in_bytes 43 (omega arith)) (joined 46 (omega arith) w)

pub pre_mark : {P : Text → Type 0} → CompletesBy in_bytes P (codes "a") ([] ∷ codes "a" ∷ [])
    → CompletesBy in_bytes (Mark 45 P) (codes "-a") (codes "a" ∷ codes "a" ∷ [] ∷ codes "a" ∷ [])
pre_mark w = seq (byte_by in_bytes 45 (omega arith)) (joined 46 (omega arith) w)

module _ (A B C M : Text → Type 0) where
  abbrev IsDot : Text → Type 0
  IsDot t = t ≡ codes "."

  abbrev Third : Text → Type 0
  Third = Seq IsDot (Seq C M)

  abbrev Second : Text → Type 0
  Second = Seq IsDot (Seq B (λ t. (t ≡ []) ⊎ Third t))

  abbrev pub Partial : Text → Type 0
  Partial = Seq A (λ t. (t ≡ []) ⊎ Second t)

  pub record IsOne (t : Text) : Type 0 where
    pub is : A t

  pub record IsTwo (t : Text) : Type 0 where
    pub a : Text
    pub b : Text
    pub in_a : A a
    pub in_b : B b
    pub whole : t ≡ a ++ (46 ∷ b)

  pub record IsThree (t : Text) : Type 0 where
    pub a : Text
    pub b : Text
    pub c : Text
    pub m : Text
    pub in_a : A a
    pub in_b : B b
    pub in_c : C c
    pub in_m : M m
    pub whole : t ≡ a ++ (46 ∷ (b ++ (46 ∷ (c ++ m))))

  pub cases : (t : Text) → Partial t → IsOne t ⊎ (IsTwo t ⊎ IsThree t)
  cases t w = elim w.in_second [
    | inl e ↦ inl (record { is = subst A (sym (w.whole ∙ ap (λ x. w.first ++ x) e ∙ append-nil w.first)) w.in_first })
    | inr s ↦ (let b = s.in_second in
        let second : w.second ≡ 46 ∷ (b.first ++ b.second) = s.whole ∙ (λ i. s.in_first i ++ b.whole i) in
        elim b.in_second [
          | inl e ↦ inr (inl (record {
            a = w.first;
            b = b.first;
            in_a = w.in_first;
            in_b = b.in_first;
            whole = w.whole ∙ ap (λ x. w.first ++ x) (second ∙ ap (λ x. 46 ∷ (b.first ++ x)) e ∙ ap (λ x. 46 ∷ x) (append-nil b.first));
          }))
          | inr r ↦ (let c = r.in_second in inr (inr (record {
            a = w.first;
            b = b.first;
            c = c.first;
            m = c.second;
            in_a = w.in_first;
            in_b = b.in_first;
            in_c = c.in_first;
            in_m = c.in_second;
            whole = w.whole ∙ ap (λ x. w.first ++ x) (second ∙ ap (λ x. 46 ∷ (b.first ++ x)) (r.whole ∙ (λ i. r.in_first i ++ c.whole i)));
          })))
        ])
  ]

  pub one_text : (a : Text) → A a → Partial a
  one_text a is = subst Partial (append-nil a) (both a [] is (inl refl))

  pub two_text : (a b : Text) → A a → B b → Partial (a ++ (46 ∷ b))
  two_text a b is next = subst (λ x. Partial (a ++ (46 ∷ x))) (append-nil b) (both a _ is (inr (both (codes ".") _ refl
      (both b [] next (inl refl)))))

  pub three_text : (a b c m : Text) → A a → B b → C c → M m → Partial (a ++ (46 ∷ (b ++ (46 ∷ (c ++ m)))))
  three_text a b c m is next last marks =
      both a _ is (inr (both (codes ".") _ refl (both b _ next (inr (both (codes ".") _ refl (both c m last marks))))))

pub partial : {A B C M : Text → Type 0} {x y z : ℕ} {more : List Text} → CompletesBy in_bytes A (x ∷ []) ([] ∷ [])
    → CompletesBy in_bytes B (y ∷ []) ([] ∷ []) → CompletesBy in_bytes C (z ∷ []) ([] ∷ []) → CompletesBy in_bytes M [] more
    → CompletesBy in_bytes (Partial A B C M) (x ∷ []) ([] ∷ (y ∷ []) ∷ [] ∷ (z ∷ []) ∷ [] ∷ more)
partial a b c m =
    let dot = byte_by in_bytes 46 (omega arith) in
    seq a (optional (seq dot (seq b (optional (seq dot (seq c m))))))

-- ---- the trees of these texts

pub spelled_one : (a : Text) → is_component a ≡ true → SpellsPartial (one a) a
spelled_one a e = (and_from _ _ e refl, tt, sym (append-nil a))

pub spelled_two : (a b : Text) → is_component a ≡ true → is_component b ≡ true → SpellsPartial (two a b) (a ++ (46 ∷ b))
spelled_two a b e f = (and_from _ _ e (and_from _ _ f refl), tt, sym (append-nil (a ++ (46 ∷ b))))

pub spelled_three : (a b c m : Text) (pre build : List Text) → is_component a ≡ true → is_component b ≡ true → is_component c ≡ true
    → list_all is_part pre ≡ true → list_all is_part build ≡ true → m ≡ marked (45 ∷ []) pre ++ marked (43 ∷ []) build
    → SpellsPartial (three a b c pre build) (a ++ (46 ∷ (b ++ (46 ∷ (c ++ m)))))
spelled_three a b c m pre build e f g p q is =
    (and_from _ _ e (and_from _ _ f (and_from _ _ g refl)), (p, q), ap (λ x. a ++ (46 ∷ (b ++ (46 ∷ (c ++ x))))) is ∙ simp append_assoc)

pub three_is : (a b c : Text) (pre build : List Text) (t : Text) → SpellsPartial (three a b c pre build) t
    → t ≡ a ++ (46 ∷ (b ++ (46 ∷ (c ++ (marked (45 ∷ []) pre ++ marked (43 ∷ []) build)))))
three_is a b c pre build t (e, parts, text) = text ∙ simp append_assoc

pub components_of_three : (a b c : Text) → list_all is_component (a ∷ b ∷ c ∷ []) ≡ true
    → (is_component a ≡ true) × (is_component b ≡ true) × (is_component c ≡ true)
components_of_three a b c e =
    let first = and_parts (is_component a) (is_component b && (is_component c && true)) e in
    let second = and_parts (is_component b) (is_component c && true) first.1 in
    (first.0, second.0, (and_parts (is_component c) true second.1).0)
