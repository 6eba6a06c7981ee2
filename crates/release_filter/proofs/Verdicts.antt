-- The verdict on a line, prefix by prefix.
use Rattle.std.proofs.Common.{◌≡◌, ◌∙◌, ◌++◌, ◌∷◌, ◌≤◌, ◌-◌, ◌&&◌, [], List, Bool, true, refl, ap, ap₂, sym, subst, inl, inr}
use Rattle.std.proofs.Common.{String, Global, string_bytes, length, get_or, take, drop, arith}
use Rattle.std.proofs.lemmas.Grind.{common_steps}
use Rattle.std.proofs.lemmas.List.{append_cancel_left}
use Rattle.tool_ranges.specs.VersionRanges.{RangeValue, versions_grammar}
use Rattle.semver_texts.specs.Texts.{Text, is_empty}
use Rattle.semver_texts.specs.Versions.{VersionValue}
use Rattle.semver_texts.specs.ToolVersions.{IsVersionTextIn, SpellsIn}
use Rattle.semver_texts.specs.declared.grammar.Grammar.{Grammar}
use Rattle.semver_versions.specs.VersionRefs.{VersionRefValue, version_of}
use Rattle.version_sets.specs.PreReleaseRules.{numbers_fit}
use Rattle.version_sets.specs.VersionSets.{contains}
use Rattle.release_filter.specs.Matching.{matches}
use Rattle.release_filter.specs.LineTexts.{line_text, longest_text}
use Rattle.release_filter.specs.Steps.Taking.{HasOne, Judges, texts, verdict_of, without_version}
use Rattle.release_filter.specs.Verdicts.{AreVerdictsOn, HasAfter, HasNoVersion, HasVersion, IsVerdictOn, LineRule, SpellsAfter, Verdict}
use Rattle.release_filter.specs.Verdicts.{given_after, reported, tried}
use Rattle.release_filter.specs.Verdicts.{kept, dropped, invalid, empty}
use Rattle.release_filter.specs.declared.judge.Judged.{Judged}
use Rattle.release_filter.specs.declared.judge.Judged.TheVariants.{NotAVersion, Outside, Kept}
use Rattle.release_filter.proofs.Matching.{not_both}

abbrev pub OneVersion : Type 0
OneVersion = (grammar : Grammar) (v w : VersionValue) (text : Text) → SpellsIn grammar v text → SpellsIn grammar w text → v ≡ w

-- ---- after one prefix

module _ (grammar : Grammar) (prefix text : Text) where
  pub none_spelled : (rest : Text) → text ≡ prefix ++ rest → ¬ (IsVersionTextIn grammar rest) → (p : Text) (v : VersionValue)
      → ¬ (HasOne grammar prefix text p v)
  none_spelled rest e none p v (is, has) =
      none (v, subst (SpellsIn grammar v) (append_cancel_left prefix has.0 rest (sym has.1 ∙ e)) has.2)

pub matched : (range : RangeValue) (o : VersionRefValue) (is : Bool) → numbers_fit (version_of o).plain ≡ true
    → is ≡ contains range.versions (version_of o).plain → matches range (version_of o) ≡ is
matched range o is fits so = ap (λ b. b && contains range.versions (version_of o).plain) fits ∙ sym so

-- ---- after one of some prefixes

module _ (rule : LineRule) (prefix : Text) (prefixes : List Text) (text line : Text) where
  abbrev grammar : Grammar
  grammar = versions_grammar rule.filter

  -- if the line has no version after the first prefix, the other prefixes decide
  pub judges_next : (r : Judged) → ((p : Text) (v : VersionValue) → ¬ (HasOne grammar prefix text p v))
      → Judges rule (HasVersion grammar prefixes text) text line r → Judges rule (HasVersion grammar (prefix ∷ prefixes) text) text line r
  judges_next (NotAVersion said) none j = (no_version, j.1)
    where
      no_version : (p : Text) (v : VersionValue) → ¬ (HasVersion grammar (prefix ∷ prefixes) text p v)
      no_version p v (inl a) = none p v a
      no_version p v (inr (other, a)) = j.0 p v a
  judges_next Outside none j = (j.0, j.1, inr (λ w a. none prefix w (refl, a), j.2), j.3)
  judges_next (Kept o given) none j = (j.0, j.1, inr (λ w a. none prefix w (refl, a), j.2), j.3, j.4, j.5)

-- if there is only one prefix, it decides
pub judges_alone : (rule : LineRule) (prefix text line : Text) (r : Judged) → Judges rule (HasOne
    (versions_grammar rule.filter) prefix text) text line r
    → Judges rule (HasVersion (versions_grammar rule.filter) (prefix ∷ []) text) text line r
judges_alone rule prefix text line (NotAVersion said) j =
    judges_next rule prefix [] text line (NotAVersion said) j.0 (λ p v a. a, j.1)
judges_alone rule prefix text line Outside j = (j.0, j.1, inl j.2, j.3)
judges_alone rule prefix text line (Kept o given) j = (j.0, j.1, inl j.2, j.3, j.4, j.5)

-- ---- prefixes as a list of texts

pub first_and_rest : (prefixes : List (String Global)) (first : String Global) → 1 ≤ length prefixes → first ≡ get_or prefixes 0 first
    → texts prefixes ≡ string_bytes first ∷ texts (take (length prefixes - 1) (drop 1 prefixes))
first_and_rest [] first some is = absurd (omega arith)
first_and_rest (prefix ∷ prefixes) first some is = grind (arith, common_steps)

pub no_texts : (prefixes : List (String Global)) → length prefixes ≡ 0 → tried (texts prefixes) ≡ [] ∷ []
no_texts [] none = refl
no_texts (prefix ∷ prefixes) none = absurd (omega arith)

pub some_texts : (prefixes : List (String Global)) → 1 ≤ length prefixes → tried (texts prefixes) ≡ texts prefixes
some_texts [] some = absurd (omega arith)
some_texts (prefix ∷ prefixes) some = refl

-- ---- the verdict on a line

module _ (rule : LineRule) (line : Text) where
  no_version : HasNoVersion rule line → (text : Text) → text ≡ line_text rule.ending line → IsVerdictOn rule line (without_version text)
  no_version none [] e = (none, ap is_empty (sym e))
  no_version none (x ∷ xs) e = (none, ap is_empty (sym e), ap (take reported) e)

  pub judged : (text : Text) (r : Judged) → text ≡ line_text rule.ending line → length text ≤ longest_text
      → Judges rule (HasVersion (versions_grammar rule.filter) (tried rule.prefixes) text) text line r → IsVerdictOn rule line
      (verdict_of r)
  judged text r e short j = by_said r (rw e at short) (subst (λ t. Judges rule (HasVersion (versions_grammar rule.filter)
      (tried rule.prefixes) t) t line r) e j)
    where
      by_said : (r : Judged) → length (line_text rule.ending line) ≤ longest_text
          → Judges rule (HasVersion (versions_grammar rule.filter) (tried rule.prefixes) (line_text rule.ending line))
          (line_text rule.ending line) line r
          → IsVerdictOn rule line (verdict_of r)
      by_said (NotAVersion said) short j = no_version (λ prefix v has. j.0 prefix v has.1) said.now j.1
      by_said Outside short j = (j.0, j.1, (short, j.2), j.3)
      by_said (Kept o given) short j =
          (j.0, j.1, (short, j.2), j.3, ap (λ (v : VersionValue). v.plain) (sym j.4), j.5)

-- ---- a line has only one verdict

one_had : OneVersion → (grammar : Grammar) (prefixes : List Text) (text p q : Text) (v w : VersionValue)
    → HasVersion grammar prefixes text p v → HasVersion grammar prefixes text q w → (p ≡ q) × (v ≡ w)
one_had same grammar [] text p q v w a b = absurd a
one_had same grammar (prefix ∷ prefixes) text p q v w (inl (is, a)) (inl (so, b)) =
    (is ∙ sym so, after a b)
  where
    after : SpellsAfter grammar prefix text v → SpellsAfter grammar prefix text w → v ≡ w
    after a b = grind (arith, common_steps, append_cancel_left)
one_had same grammar (prefix ∷ prefixes) text p q v w (inl (is, a)) (inr (none, b)) = absurd (none v a)
one_had same grammar (prefix ∷ prefixes) text p q v w (inr (none, a)) (inl (so, b)) = absurd (none w b)
one_had same grammar (prefix ∷ prefixes) text p q v w (inr (none, a)) (inr (other, b)) = one_had same grammar prefixes text p q v w a b

module _ (same : OneVersion) (rule : LineRule) where
  one_after : (line p q : Text) (v w : VersionValue) → HasAfter rule line p v → HasAfter rule line q w → (p ≡ q) × (v ≡ w)
  one_after line p q v w a b =
      one_had same (versions_grammar rule.filter) (tried rule.prefixes) (line_text rule.ending line) p q v w a.1 b.1

  pub one_verdict : (line : Text) (v w : Verdict) → IsVerdictOn rule line v → IsVerdictOn rule line w → v ≡ w
  one_verdict line (kept a g) (kept b h) p q =
      let both = one_after line p.0 q.0 p.1 q.1 p.2 q.2 in
      ap₂ kept (p.4 ∙ ap (λ (v : VersionValue). v.plain) both.1 ∙ sym q.4) (p.5 ∙ ap (λ (t : Text). given_after rule
      (length t) line) both.0 ∙ sym q.5)
  one_verdict line (kept a g) dropped p q =
      let both = one_after line p.0 q.0 p.1 q.1 p.2 q.2 in absurd (not_both p.3 (ap (matches rule.filter) both.1 ∙ q.3))
  one_verdict line (kept a g) (invalid f) p q = absurd (q.0 p.0 p.1 p.2)
  one_verdict line (kept a g) empty p q = absurd (q.0 p.0 p.1 p.2)
  one_verdict line dropped (kept b h) p q =
      let both = one_after line p.0 q.0 p.1 q.1 p.2 q.2 in absurd (not_both q.3 (sym (ap (matches rule.filter) both.1) ∙ p.3))
  one_verdict line dropped dropped p q = refl
  one_verdict line dropped (invalid f) p q = absurd (q.0 p.0 p.1 p.2)
  one_verdict line dropped empty p q = absurd (q.0 p.0 p.1 p.2)
  one_verdict line (invalid e) (kept b h) p q = absurd (p.0 q.0 q.1 q.2)
  one_verdict line (invalid e) dropped p q = absurd (p.0 q.0 q.1 q.2)
  one_verdict line (invalid e) (invalid f) p q = ap invalid (p.2 ∙ sym q.2)
  one_verdict line (invalid e) empty p q = absurd (not_both q.1 p.1)
  one_verdict line empty (kept b h) p q = absurd (p.0 q.0 q.1 q.2)
  one_verdict line empty dropped p q = absurd (p.0 q.0 q.1 q.2)
  one_verdict line empty (invalid f) p q = absurd (not_both p.1 q.1)
  one_verdict line empty empty p q = refl

  pub one_verdicts : (lines : List Text) (vs ws : List Verdict) → AreVerdictsOn rule lines vs → AreVerdictsOn rule lines ws → vs ≡ ws
  one_verdicts [] [] [] p q = refl
  one_verdicts [] (v ∷ vs) ws p q = absurd p
  one_verdicts [] [] (w ∷ ws) p q = absurd q
  one_verdicts (line ∷ lines) [] ws p q = absurd p
  one_verdicts (line ∷ lines) (v ∷ vs) [] p q = absurd q
  one_verdicts (line ∷ lines) (v ∷ vs) (w ∷ ws) p q =
      ap₂ (λ x xs. x ∷ xs) (one_verdict line v w p.0 q.0) (one_verdicts lines vs ws p.1 q.1)

module _ (rule : LineRule) where
  pub verdicts_append : (xs ys : List Text) (vs ws : List Verdict) → AreVerdictsOn rule xs vs → AreVerdictsOn rule ys ws
      → AreVerdictsOn rule (xs ++ ys) (vs ++ ws)
  verdicts_append [] ys [] ws p q = q
  verdicts_append [] ys (v ∷ vs) ws p q = absurd p
  verdicts_append (x ∷ xs) ys [] ws p q = absurd p
  verdicts_append (x ∷ xs) ys (v ∷ vs) ws p q = (p.0, verdicts_append xs ys vs ws p.1 q)

  -- the verdicts on two lists of lines together are those on the first list, and then on the second
  pub verdicts_split : (xs ys : List Text) (ws : List Verdict) → AreVerdictsOn rule (xs ++ ys) ws
      → (us vs : List Verdict) × (ws ≡ us ++ vs) × AreVerdictsOn rule xs us × AreVerdictsOn rule ys vs
  verdicts_split [] ys ws p = ([], ws, refl, tt, p)
  verdicts_split (x ∷ xs) ys [] p = absurd p
  verdicts_split (x ∷ xs) ys (w ∷ ws) p =
      let rest = verdicts_split xs ys ws p.1 in (w ∷ rest.0, rest.1, ap (λ l. w ∷ l) rest.2, (p.0, rest.3), rest.4)
