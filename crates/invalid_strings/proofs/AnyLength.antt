-- A text that is at least 8 bytes shorter than npm's limit isn't too long in any dialect.
use Rattle.std.proofs.Common.{◌+◌, ◌≤◌, ◌++◌, arith, length, length-append, rules}
use Rattle.std.proofs.lemmas.List.Elements.{All-contains, All-from_recursion}
use Rattle.std.proofs.lemmas.List.Sums.{count_by-le-length}
use Rattle.std.specs.Prelude.{not}
use Rattle.semver_texts.specs.NpmLimits.{max_length}
use Rattle.semver_texts.specs.Texts.{Text}
use Rattle.semver_texts.specs.ToolVersions.{IsVersionTextIn, characters, goes_on}
use Rattle.semver_texts.specs.declared.grammar.Grammar.{Grammar}
use Rattle.semver_texts.specs.declared.grammar.Grammar.TheVariants.{Crate, Cargo, Npm}
use Rattle.semver_versions.specs.AnyLength.{IsVersionAtAnyLength}
use Rattle.invalid_strings.specs.VersionCompletions.{byte_completions}
use Rattle.invalid_strings.specs.Reasons.{IsTooLong}
use Rattle.invalid_strings.specs.declared.bytes.Length.TheVariants.{Any}
use Rattle.invalid_strings.proofs.VersionPrefixes.{known}

short_version : (d : Grammar) (t : Text) → characters t ≤ max_length → IsVersionAtAnyLength d t → IsVersionTextIn d t
short_version Crate t short w = w
short_version Cargo t short w = w
short_version Npm t short w = (w.0, (w.1, short))

pub never_too_long : (d : Grammar) (t : Text) → length t + 8 ≤ max_length → ¬ (IsTooLong d t)
never_too_long d t short w =
    let goes = (known d).bytes Any t w.0.0 w.0.1 in
    let few : length goes.1 ≤ 8 = All-contains (λ completion. length completion ≤ 8) byte_completions goes.1
    (All-from_recursion (λ completion. length completion ≤ 8) byte_completions (search rules)) (goes.0, goes.2, goes.3) in
    w.1 (
      goes.1,
      short_version d (t ++ goes.1)
          (omega (arith, few, length-append t goes.1, count_by-le-length (λ b. not (goes_on b)) (t ++ goes.1))) goes.4,
    )
