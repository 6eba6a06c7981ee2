-- Reading a text that spells a version with a pre-release or build metadata may run out of memory,
-- since its tokens contain a run of an identifier.
use Rattle.std.proofs.Common.{◌≡◌, ℕ, ◌<◌, ◌+◌, Bool, true, false, arith, List, [], ◌∷◌, length, map, Some}
use Rattle.std.proofs.Common.{refl, subst, inl, inr, ⊎_elim, ◌⊎◌, decimal}
use Rattle.std.specs.List.{AllZip, join_with_byte}
use Rattle.std.proofs.lemmas.Option.{option_and_then_some}
use Rattle.semver_texts.specs.Texts.{Text, marked}
use Rattle.semver_texts.specs.Versions.{IdentifierValue, VersionValue, numbers}
use Rattle.semver_tokens.specs.Tokens.{TokenValue, LtEq, GtEq, Or, Hyphen, Plus, Whitespace, Numeric, AlphaNumeric, IsTokenAt, AreInPlace}
use Rattle.semver_tokens.specs.Tokens.{token_text}
use Rattle.semver_texts.specs.VersionGrammar.{SpellsIdentifier, SpellsPart, SpellsCore, SpellsVersion}
use Rattle.semver_tokens.specs.VersionReading.{HoldsIdentifierRun, TextMayRunOut, inner_text, inner_texts}
use Rattle.semver_tokens.specs.Steps.Taking.{run, Part, pre_release, build, Place, start, after_number, patch, at_run, after_run, step}
use Rattle.semver_tokens.specs.Steps.Taking.{accepts}
use Rattle.semver_tokens.proofs.TokenLists.{decimal_is_run}
use Rattle.semver_texts.proofs.Lists.{Passes, all_more, passes_append, passes_apart}
use Rattle.semver_tokens.proofs.VersionSteps.{version_is_read}
use Rattle.semver_tokens.proofs.VersionTaking.{holds_later, mark_of, sign_holds}
use Rattle.semver_parser.proofs.WholeText.{is_no_mark, letter_no_mark, has, spelled_may_run_out}

-- ---- a run follows a mark

mark_leads : (mark : Part) (p q : Place) → step p (mark_of mark) ≡ Some q → (part : Part) × (q ≡ at_run part)
mark_leads pre_release (after_number patch) q e = (pre_release, cc)
mark_leads pre_release (after_run part) q e = (part, cc)
mark_leads build (after_number patch) q e = (build, cc)
mark_leads build (after_run pre_release) q e = (build, cc)
mark_leads _ _ q e = cc

mark_holds : (mark : Part) (p q : Place) → step p (mark_of mark) ≡ Some q → (ts : List TokenValue) (last : Place)
    → run step q ts ≡ Some last → accepts last ≡ true → HoldsIdentifierRun (mark_of mark ∷ ts)
mark_holds mark p q leads ts last e ok =
    let to = mark_leads mark p q leads in sign_holds _ (is_sign mark) to.0 ts last (rw (← to.1) e) ok
  where
    is_sign : (mark : Part) → (mark_of mark ≡ Hyphen) ⊎ (mark_of mark ≡ Plus)
    is_sign pre_release = inl refl
    is_sign build = inr refl

-- ---- tokens without a mark have a text without a mark

abbrev is_mark : TokenValue → Bool
is_mark Hyphen = true
is_mark Plus = true
is_mark _ = false

no_mark_inside : (text : List ℕ) (place : ℕ) (t : TokenValue) → is_mark t ≡ false → IsTokenAt text place t
    → Passes is_no_mark (inner_text t)
no_mark_inside text place (Numeric n) other w =
    all_more letter_no_mark _ (decimal_is_run n w).1
no_mark_inside text place (AlphaNumeric s) other w = all_more letter_no_mark s w.0.1
no_mark_inside text place (Whitespace a b) other w = tt
no_mark_inside text place LtEq other w = (refl, (refl, tt))
no_mark_inside text place GtEq other w = (refl, (refl, tt))
no_mark_inside text place Or other w = (refl, (refl, tt))
no_mark_inside text place Hyphen other w = cc
no_mark_inside text place Plus other w = cc
no_mark_inside text place _ other w = (refl, tt)

-- the tokens contain a run of an identifier, or their text contains no mark
holds_or_none : (text : List ℕ) (place : ℕ) (p last : Place) (ts : List TokenValue) → AreInPlace text place ts → run step p ts ≡ Some last
    → accepts last ≡ true → HoldsIdentifierRun ts ⊎ Passes is_no_mark (inner_texts ts)
holds_or_none text place p last [] placed leads ok = inr tt
holds_or_none text place p last (Hyphen ∷ ts) placed leads ok =
    option_and_then_some _ (step p Hyphen) last leads (λ q here on. inl (mark_holds pre_release p q here ts last on ok))
holds_or_none text place p last (Plus ∷ ts) placed leads ok =
    option_and_then_some _ (step p Plus) last leads (λ q here on. inl (mark_holds build p q here ts last on ok))
holds_or_none text place p last (t ∷ ts) placed leads ok =
    option_and_then_some _ (step p t) last leads (λ q here on.
    ⊎_elim (λ holds. inl (holds_later t ts holds)) (λ none. inr
    (passes_append is_no_mark (inner_text t) (inner_texts ts) (no_mark_inside text place t refl placed.0) none))
    (holds_or_none text (place + length (token_text text t)) q last ts placed.1 on ok))

-- ---- a version with identifiers

-- the text of a part with identifiers contains its mark
no_ids : (mark : ℕ) (ids : List IdentifierValue) (text : Text) → SpellsPart (mark ∷ []) ids text → is_no_mark mark ≡ false
    → Passes is_no_mark text → ¬ (0 < length ids)
no_ids mark ids text w marks all some = go ids w.texts w.each some (subst (Passes is_no_mark) w.joined all)
  where
    go : (ids : List IdentifierValue) (texts : List Text) → AllZip SpellsIdentifier ids texts → 0 < length ids
        → Passes is_no_mark (marked (mark ∷ []) texts) → ⊥
    go [] texts each some all = absurd (omega (arith, some))
    go (id ∷ ids) [] each some all = absurd each
    go (id ∷ ids) (t ∷ texts) each some all = cc (all.0)

pub may_run_out : (v : VersionValue) (text : Text) → SpellsVersion v text → (0 < length v.plain.pre) ⊎ (0 < length v.build)
    → TextMayRunOut text
may_run_out v text spells some =
    let tokens = has v text spells in
    let leads = version_is_read.read tokens.ts tokens.shape in
    ⊎_elim (λ holds. spelled_may_run_out v text spells holds) (λ none. absurd (marked_text tokens.spells none))
    (holds_or_none text 0 start leads.0 tokens.ts tokens.tokens.in_place leads.1 leads.2)
  where
    marked_text : {inner : Text} → SpellsCore v inner → Passes is_no_mark inner → ⊥
    marked_text w none =
        let both = passes_apart is_no_mark _ w.build_text (subst (Passes is_no_mark) w.spelled none) in
        ⊎_elim
        (no_ids 45 v.plain.pre w.pre_text w.pre refl
        (passes_apart is_no_mark (join_with_byte 46 (map decimal (numbers v.plain))) w.pre_text both.0).1)
        (no_ids 43 v.build w.build_text w.build refl both.1) some
