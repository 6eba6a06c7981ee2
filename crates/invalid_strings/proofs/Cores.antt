-- How the prefixes of three numbers or wildcards, a pre-release and build metadata are completed.
use Rattle.std.proofs.Common.{◌≡◌, ℕ, ◌⊎◌, inl, inr, List, [], ◌∷◌, ◌++◌, map, codes}
use Rattle.std.proofs.Common.{refl, sym, ◌∙◌, subst, append_assoc, arith}
use Rattle.std.specs.List.{AllByRecursion, join_with_byte}
use Rattle.semver_texts.specs.Texts.{Text, marked}
use Rattle.invalid_strings.proofs.Completions.{Completes, Joined, Seq, both, byte, joined, optional, same, seq}

-- ---- identifiers after their mark

abbrev pub Marked : ℕ → (Text → Type 0) → Text → Type 0
Marked mark P t = (t ≡ []) ⊎ Seq (λ x. x ≡ mark ∷ []) (Joined 46 P) t

pub record AreMarked (mark : ℕ) (P : Text → Type 0) (t : Text) : Type 0 where
  pub texts : List Text
  pub each : AllByRecursion P texts
  pub whole : t ≡ marked (mark ∷ []) texts

pub marked_from : (mark : ℕ) (P : Text → Type 0) (t : Text) → Marked mark P t → AreMarked mark P t
marked_from mark P t (inl e) = record { texts = []; each = tt; whole = e }
marked_from mark P t (inr w) =
    let all = w.in_second in
    record { texts = all.first ∷ all.others; each = all.each; whole = w.whole ∙ (λ i. w.in_first i ++ all.whole i) }

pub marked_to : (mark : ℕ) (P : Text → Type 0) (texts : List Text) → AllByRecursion P texts → Marked mark P (marked (mark ∷ []) texts)
marked_to mark P [] all = inl refl
marked_to mark P (t ∷ ts) all =
    inr (both (mark ∷ []) (join_with_byte 46 (t ∷ ts)) refl (record { first = t; others = ts; each = all; whole = refl }))

-- ---- three numbers or wildcards, a pre-release and build metadata

pub record IsThree (N P Q : Text → Type 0) (t : Text) : Type 0 where
  pub a : Text
  pub b : Text
  pub c : Text
  pub pre : List Text
  pub build : List Text
  pub a_is : N a
  pub b_is : N b
  pub c_is : N c
  pub pre_each : AllByRecursion P pre
  pub build_each : AllByRecursion Q build
  pub whole : t ≡ join_with_byte 46 (a ∷ b ∷ c ∷ []) ++ (marked (45 ∷ []) pre ++ marked (43 ∷ []) build)

module _ (N P Q : Text → Type 0) where
  abbrev IsDot : Text → Type 0
  IsDot t = t ≡ codes "."

  abbrev Three : Text → Type 0
  Three = Seq N (Seq IsDot (Seq N (Seq IsDot (Seq N (Seq (Marked 45 P) (Marked 43 Q))))))

  three_text : (t a b c p q p' q' d e x y z v u : Text) → t ≡ a ++ x → x ≡ d ++ y → d ≡ 46 ∷ [] → y ≡ b ++ z → z ≡ e ++ v → e ≡ 46 ∷ []
      → v ≡ c ++ u → u ≡ p' ++ q' → p' ≡ p → q' ≡ q → t ≡ (a ++ (46 ∷ (b ++ (46 ∷ c)))) ++ (p ++ q)
  three_text t a b c p q p' q' d e x y z v u h1 h2 h3 h4 h5 h6 h7 h8 h9 h10 =
      simp (h1, h2, h3, h4, h5, h6, h7, h8, h9, h10, append_assoc)

  three_from : (t : Text) → Three t → IsThree N P Q t
  three_from t w =
      let second = w.in_second.in_second in
      let third = second.in_second.in_second in
      let pre = marked_from 45 P third.in_second.first third.in_second.in_first in
      let build = marked_from 43 Q third.in_second.second third.in_second.in_second in
      record {
        a = w.first;
        b = second.first;
        c = third.first;
        pre = pre.texts;
        build = build.texts;
        a_is = w.in_first;
        b_is = second.in_first;
        c_is = third.in_first;
        pre_each = pre.each;
        build_each = build.each;
        whole = three_text t w.first second.first third.first (marked (45 ∷ []) pre.texts) (marked (43 ∷ []) build.texts)
            third.in_second.first third.in_second.second w.in_second.first second.in_second.first w.second w.in_second.second
            second.second second.in_second.second third.second w.whole w.in_second.whole w.in_second.in_first second.whole
            second.in_second.whole second.in_second.in_first third.whole third.in_second.whole pre.whole build.whole;
      }

  three_to : (t : Text) → IsThree N P Q t → Three t
  three_to t w =
      let is : Three (w.a ++ (codes "." ++ (w.b ++ (codes "." ++ (w.c ++ (marked (45 ∷ []) w.pre ++ marked (43 ∷ []) w.build)))))) =
      both w.a _ w.a_is (both (codes ".") _ refl (both w.b _ w.b_is (both (codes ".") _ refl (both w.c _ w.c_is
      (both (marked (45 ∷ []) w.pre) _ (marked_to 45 P w.pre w.pre_each) (marked_to 43 Q w.build w.build_each)))))) in
      subst Three (sym (w.whole ∙ simp append_assoc)) is

  pub three : {n : Text} {pre build : List Text} → Completes N n ([] ∷ []) → Completes P (codes "a") pre → Completes Q (codes "a") build
      → Completes (IsThree N P Q) (n ++ (46 ∷ (n ++ (46 ∷ (n ++ []))))) ((46 ∷ (n ++ (46 ∷ (n ++ [])))) ∷ (n ++ (46 ∷ (n ++ [])))
      ∷ (46 ∷ (n ++ [])) ∷ (n ++ []) ∷ []
      ∷ (map (λ m. m ++ []) (codes "a" ∷ codes "a" ∷ pre) ++ (codes "a" ∷ codes "a" ∷ build)))
  three n p q =
      let pre = optional (seq (byte 45 (omega arith)) (joined 46 (omega arith) p)) in
      let build = optional (seq (byte 43 (omega arith)) (joined 46 (omega arith) q)) in
      let dot = byte 46 (omega arith) in
      same (seq n (seq dot (seq n (seq dot (seq n (seq pre build)))))) (IsThree N P Q) three_from three_to
