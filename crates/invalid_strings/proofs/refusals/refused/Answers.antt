use Rattle.std.proofs.Common.{◌≡◌, ◌∙◌, ◌++◌, ℕ, Bool, subst, sym, take, rules}
use Rattle.std.specs.Prelude.{◌↔◌, IsTrue, Option}
use Rattle.semver_texts.specs.Texts.{Text}
use Rattle.semver_texts.specs.declared.grammar.Grammar.{Grammar}
use Rattle.semver_texts.specs.ToolVersions.{IsVersionTextIn}
use Rattle.invalid_strings.specs.Reasons.{IsReason, IsTooLong, byte_at, byte_text}
use Rattle.invalid_strings.specs.declared.reasons.Reason.{Reason}
use Rattle.invalid_strings.specs.VersionCompletions.{version_completions}
use Rattle.invalid_strings.proofs.LongestPrefixes.{IsTextPrefix, bytes_longest, prefix_of}
use Rattle.invalid_strings.proofs.VersionPrefixes.{known}
use Rattle.invalid_strings.proofs.refusals.refused.Goals as goal
use Rattle.invalid_strings.proofs.refusals.refused.Goals.{After-drop-buffer-2}

pub longest_prefix_in-offset-requires-clause-completions : goal.longest_prefix_in-offset-requires-clause-completions
longest_prefix_in-offset-requires-clause-completions c = (known c.args.grammar).completions

is_prefix : (c : After-drop-buffer-2) → IsTextPrefix c.args.input.now c.text_prefix-text.result.now
is_prefix c =
    let e = c.text_prefix-text.ensures in
    record { within = e.within; prefix = e.prefix; longest = e.longest; utf8 = c.text_prefix-text.utf8 }

pub returns-clause-offset : goal.returns-clause-offset
returns-clause-offset c =
    let w = known c.args.grammar in
    bytes_longest (IsVersionTextIn c.args.grammar) w.utf8 c.args.input.now c.text_prefix-text.result.now (is_prefix c) version_completions
    w.completions c.longest_prefix_in-offset.result c.longest_prefix_in-offset.ensures.longest

-- the reason for the prefix of the input and the byte after it, from the values computed for them
reason_of : (d : Grammar) (input : Text) (at : ℕ) (prefix : Text) (next : Option ℕ) (both : Text) (too_long : Bool) (reason : Reason)
    → prefix ≡ take at input → next ≡ byte_at input at → both ≡ take at input ++ byte_text (byte_at input at)
    → (IsTrue too_long ↔ IsTooLong d both)
    → ((IsTrue too_long ↔ IsTooLong d (prefix ++ byte_text next)) → IsReason d prefix next reason)
    → IsReason d (take at input) (byte_at input at) reason
reason_of d input at prefix next both too_long reason p n b long is =
    let same : both ≡ prefix ++ byte_text next = b ∙ (λ i. sym p i ++ byte_text (sym n i)) in
    subst (λ x. IsReason d x (byte_at input at) reason) p (subst (λ y. IsReason d prefix y reason) n
    (is (subst (λ x. IsTrue too_long ↔ IsTooLong d x) same long)))

pub returns-clause-reason : goal.returns-clause-reason
returns-clause-reason c =
    let d = c.args.grammar in
    let at = c.longest_prefix_in-offset.result in
    let prefix : Text = c.range.result.now in
    let taken : prefix ≡ take at c.text_prefix-text.result.now = search rules in
    let is : prefix ≡ take at c.args.input.now =
    taken ∙ prefix_of (IsVersionTextIn d) (known d).utf8 c.args.input.now c.text_prefix-text.result.now (is_prefix c) at
    c.longest_prefix_in-offset.ensures.longest.within in
    reason_of d c.args.input.now at prefix c.byte_at-next.result c.with_next.result.now c.in_ok-too_long.too_long c.reason_at-reason.result
    is c.byte_at-next.ensures c.with_next.ensures.bytes c.in_ok-too_long.ensures c.reason_at-reason.ensures
