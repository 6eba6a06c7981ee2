-- The longest prefix of a text with which some text of a language begins, and a search that finds it.
use Rattle.std.proofs.Common.{◌≡◌, ℕ, ◌<◌, ◌≤◌, ⊎_elim, [], ◌++◌, List, ap, refl, sym, ◌∙◌, rules}
use Rattle.std.proofs.Common.{subst, append_assoc, arith, length, length-take, take, drop}
use Rattle.std.specs.Prelude.{Err, IfOk, Ok, Result}
use Rattle.std.specs.List.{AllByRecursion, slice_range}
use Rattle.std.specs.Str.{IsUtf8, IsCharBoundary}
use Rattle.std.proofs.Math.Seq.{take-append_seam, take-length}
use Rattle.std.proofs.lemmas.Bool.{cases_lt}
use Rattle.std.proofs.lemmas.List.{take-append-drop, take-take}
use Rattle.std.proofs.lemmas.List.Elements.{All-contains, All-from_recursion}
use Rattle.std.proofs.lemmas.Str.{IsCharBoundary-at_seam, IsCharBoundary-end, IsCharBoundary-from_take}
use Rattle.std.proofs.lemmas.Str.{IsUtf8-append, IsUtf8-drop, IsUtf8-take}
use Rattle.std.proofs.lemmas.Str.{IsUtf8-from_ascii}
use Rattle.std.proofs.lemmas.Str.Ascii.{IsAscii-from_all}
use Rattle.semver_texts.specs.Texts.{Text}
use Rattle.invalid_strings.specs.Prefixes.{AreCompletions, Begins, BeginsWhole, GoesOn, IsLongestPrefix, IsLongestWholePrefix}

abbrev Ascii : Text → Type 0
Ascii t = AllByRecursion (λ b. b < 128) t

pub ascii_utf8 : (t : Text) → Ascii t → IsUtf8 t
ascii_utf8 t all = IsUtf8-from_ascii t (IsAscii-from_all t (All-from_recursion (λ b. b < 128) t all))

pub shorter_prefix : (Is : Text → Type 0) (x y : Text) → IsUtf8 y → Begins Is (x ++ y) → Begins Is x
shorter_prefix Is x y utf8 (rest, more, text) = (y ++ rest, IsUtf8-append y rest utf8 more, subst Is (append_assoc x y rest) text)

pub one_longest : (Begins : Text → Type 0) (t : Text) (m n : ℕ) → IsLongestPrefix Begins t m → IsLongestPrefix Begins t n → m ≡ n
one_longest Begins t m n a b = search rules

pub one_of_each : {E : Type 0} (Begins : Text → Type 0) (t : Text) (r s : Result ℕ E) → IfOk r (IsLongestPrefix Begins t)
    → IfOk s (IsLongestPrefix Begins t) → IfOk r (λ m. IfOk s (λ n. m ≡ n))
one_of_each Begins t (Ok m) (Ok n) a b = one_longest Begins t m n a b
one_of_each Begins t (Ok m) (Err e) a b = tt
one_of_each Begins t (Err e) s a b = tt

-- if some text of the language begins with the prefix up to n, one also begins with the prefix up to
-- a lower offset m; both offsets have to be between two characters
prefix_prefix : (Is : Text → Type 0) (t : Text) (m n : ℕ) → IsUtf8 t → IsCharBoundary t m → IsCharBoundary t n → m ≤ n
    → Begins Is (take n t) → Begins Is (take m t)
prefix_prefix Is t m n utf8 at_m at_n within prefix =
    let same = take-take m n t within in
    let whole = IsUtf8-take t n utf8 at_n in
    let at = IsCharBoundary-from_take (take n t) m whole (simp length-take (omega (arith, at_m.0, at_n.0)))
    (subst IsUtf8 (sym same) (IsUtf8-take t m utf8 at_m)) in
    subst (Begins Is) same
    (shorter_prefix Is (take m (take n t)) (drop m (take n t)) (IsUtf8-drop (take n t) m whole at)
    (subst (Begins Is) (sym (take-append-drop m (take n t))) prefix))

-- the search continues between two offsets: some text of the language begins with the prefix up to
-- `good`, and none with the prefix up to `bad`
pub record IsSearched (Is : Text → Type 0) (t : Text) (good bad : ℕ) : Type 0 where
  pub below : good ≤ bad
  pub boundary : IsCharBoundary t good
  pub end : IsCharBoundary t bad
  pub begins : Begins Is (take good t)
  pub ends : ¬ (Begins Is (take bad t))

module _ (Is : Text → Type 0) (completions : List Text) (t : Text) (w : AreCompletions Is completions) where
  pub whole_from : (x : Text) → GoesOn Is completions x → BeginsWhole Is x
  whole_from x goes = (
    goes.1,
    All-contains Ascii completions goes.1 (All-from_recursion Ascii completions w.ascii) (goes.0, goes.2, goes.3),
    goes.4,
  )

  begins_from : (x : Text) → GoesOn Is completions x → Begins Is x
  begins_from x goes = let whole = whole_from x goes in (whole.0, ascii_utf8 whole.0 whole.1, whole.2)

  goes_from : (x : Text) → IsUtf8 x → Begins Is x → GoesOn Is completions x
  goes_from x utf8 prefix = w.complete x prefix.0 utf8 prefix.1 prefix.2

  at_end : Begins Is t → IsLongestPrefix (Begins Is) t (length t)
  at_end begins = record {
    within = omega arith;
    boundary = IsCharBoundary-end t;
    prefix = subst (Begins Is) (sym (take-length t)) begins;
    no_longer = λ n longer boundary. absurd (omega (arith, boundary.0));
  }

  pub completed_text_longest : GoesOn Is completions t → IsLongestPrefix (Begins Is) t (length t)
  completed_text_longest goes = at_end (begins_from t goes)

  pub nothing_begins : Begins Is (take 0 t)
  nothing_begins = begins_from [] w.some

  pub first_searched : (good : ℕ) → IsCharBoundary t good → Begins Is (take good t) → IsUtf8 t → ¬ (GoesOn Is completions t)
      → IsSearched Is t good (length t)
  first_searched good boundary begins utf8 ends = record {
    below = boundary.0;
    boundary = boundary;
    end = IsCharBoundary-end t;
    begins = begins;
    ends = λ begins. ends (goes_from t utf8 (subst (Begins Is) (take-length t) begins));
  }

  pub taken_begins : (n : ℕ) (prefix : Text) → prefix ≡ slice_range t 0 n → GoesOn Is completions prefix → Begins Is (take n t)
  taken_begins n prefix is goes =
      let taken : prefix ≡ take n t = search rules in
      subst (Begins Is) taken (begins_from prefix goes)

  -- the prefix up to `good` is the longest if no text of the language begins with the next longer one
  -- that ends between two characters
  pub next_longest : IsUtf8 t → (good next : ℕ) → IsCharBoundary t good → Begins Is (take good t) → IsCharBoundary t next
      → ((k : ℕ) → good < k → k < next → ¬ (IsCharBoundary t k)) → (prefix : Text) → prefix ≡ slice_range t 0 next
      → ¬ (GoesOn Is completions prefix) → IsLongestPrefix (Begins Is) t good
  next_longest utf8 good next boundary begins at none prefix is ends =
      let taken : prefix ≡ take next t = search rules in
      record {
        within = boundary.0;
        boundary = boundary;
        prefix = begins;
        no_longer = λ n longer here prefix. ⊎_elim
            (λ less. none n longer less here)
            (λ more. ends (subst (GoesOn Is completions) (sym taken) (goes_from (take next t) (IsUtf8-take t next utf8 at)
            (prefix_prefix Is t next n utf8 at here more prefix))))
            (cases_lt n next);
      }

  -- `good` or `bad` moves to an offset between them
  module _ (good bad middle : ℕ) (s : IsSearched Is t good bad) (after : good < middle) (before : middle < bad)
      (boundary : IsCharBoundary t middle) (prefix : Text) (is : prefix ≡ slice_range t 0 middle) where
    taken : prefix ≡ take middle t
    taken = search rules

    pub good_moved : GoesOn Is completions prefix → IsSearched Is t middle bad
    good_moved goes = record {
      below = omega arith;
      boundary = boundary;
      end = s.end;
      begins = subst (Begins Is) taken (begins_from prefix goes);
      ends = s.ends;
    }

    pub bad_moved : IsUtf8 t → ¬ (GoesOn Is completions prefix) → IsSearched Is t good middle
    bad_moved utf8 ends = record {
      below = omega arith;
      boundary = s.boundary;
      end = boundary;
      begins = s.begins;
      ends = λ begins. ends (subst (GoesOn Is completions) (sym taken)
          (goes_from (take middle t) (IsUtf8-take t middle utf8 boundary) begins));
    }

  pub found_longest : IsUtf8 t → (good bad : ℕ) → IsSearched Is t good bad
      → ((k : ℕ) → good < k → k < bad → ¬ (IsCharBoundary t k)) → IsLongestPrefix (Begins Is) t good
  found_longest utf8 good bad s none = record {
    within = s.boundary.0;
    boundary = s.boundary;
    prefix = s.begins;
    no_longer = λ n longer boundary prefix. ⊎_elim
        (λ less. none n longer less boundary)
        (λ more. s.ends (prefix_prefix Is t bad n utf8 s.end boundary more prefix))
        (cases_lt n bad);
  }

-- ---- bytes, and their longest prefix that is UTF-8

whole_utf8 : (Is : Text → Type 0) → ((t : Text) → Is t → IsUtf8 t) → (x : Text) → BeginsWhole Is x → IsUtf8 x
whole_utf8 Is utf8 x (more, ascii, is) =
    subst IsUtf8 (take-append_seam x more)
    (IsUtf8-take (x ++ more) (length x) (utf8 (x ++ more) is) (IsCharBoundary-at_seam (x ++ more) x more refl (ascii_utf8 more ascii)))

pub record IsTextPrefix (bytes text : Text) : Type 0 where
  pub within : length text ≤ length bytes
  pub prefix : text ≡ take (length text) bytes
  pub longest : (n : ℕ) → length text < n → n ≤ length bytes → ¬ (IsUtf8 (take n bytes))
  pub utf8 : IsUtf8 text

module _ (Is : Text → Type 0) (utf8 : (t : Text) → Is t → IsUtf8 t) (bytes text : Text) (f : IsTextPrefix bytes text) where
  pub prefix_of : (n : ℕ) → n ≤ length text → take n text ≡ take n bytes
  prefix_of n within = ap (take n) f.prefix ∙ take-take n (length text) bytes within

  pub bytes_longest : (completions : List Text) → AreCompletions Is completions → (offset : ℕ)
      → IsLongestPrefix (Begins Is) text offset → IsLongestWholePrefix Is bytes offset
  bytes_longest completions w offset p = record {
    within = omega (arith, f.within, p.within);
    prefix = subst (BeginsWhole Is) (prefix_of offset p.within) (whole_from Is completions text w (take offset text)
        (goes_from Is completions text w (take offset text) (IsUtf8-take text offset f.utf8 p.boundary) p.prefix));
    no_longer = λ n longer within whole.
        let is_utf8 = whole_utf8 Is utf8 (take n bytes) whole in
        ⊎_elim
        (λ beyond. f.longest n beyond within is_utf8)
        (λ inside. let same = prefix_of n inside in
        p.no_longer n longer (IsCharBoundary-from_take text n f.utf8 inside (subst IsUtf8 (sym same) is_utf8))
        (subst (Begins Is) (sym same) (whole.0, ascii_utf8 whole.0 whole.1, whole.2)))
        (cases_lt (length text) n);
  }
