-- Each prefix of a range text in a dialect can be completed by one of a few texts.
use Rattle.std.proofs.Common.{◌≡◌, true, ◌++◌, refl}
use Rattle.std.specs.List.{AllByRecursion, Contains, list_all}
use Rattle.std.specs.Str.{IsUtf8, chars}
use Rattle.std.proofs.lemmas.Bool.{and_parts, and_from}
use Rattle.std.proofs.lemmas.List.Elements.{All-contains, All-from_recursion}
use Rattle.std.proofs.lemmas.List.Folds.{list_all-append}
use Rattle.std.proofs.lemmas.Str.{chars-append}
use Rattle.semver_texts.specs.Texts.{Text}
use Rattle.semver_texts.specs.declared.grammar.Grammar.TheVariants as grammar
use Rattle.invalid_strings.specs.Prefixes.{GoesOn}
use Rattle.invalid_strings.proofs.Completions.{bytes_go_on}
use Rattle.semver_ranges.specs.declared.dialect.Dialect.{Dialect}
use Rattle.semver_ranges.specs.declared.dialect.Dialect.TheVariants.{Cargo, Npm}
use Rattle.tool_ranges.specs.NpmGrammar.{may_stand}
use Rattle.tool_ranges.specs.Dialects.{IsTextAs}
use Rattle.invalid_ranges.specs.Steps.Places.{range_completions}
use Rattle.invalid_ranges.proofs.CargoCompletions.{requirements}
use Rattle.invalid_ranges.proofs.RangeCompletions.{range_texts}
use Rattle.invalid_ranges.proofs.WordCompletions.{crate_words, npm_words}

-- ---- the characters that npm allows

abbrev Stands : Text → Type 0
Stands t = list_all may_stand (chars t) ≡ true

all_stand : AllByRecursion Stands range_completions
unfolding chars
all_stand = (refl, (refl, (refl, (refl, (refl, (refl, tt))))))

still_stand : (t rest more : Text) → IsUtf8 t → Stands (t ++ rest) → Contains range_completions more → Stands (t ++ more)
still_stand t rest more utf8 h is =
    let here = and_parts (list_all may_stand (chars t)) (list_all may_stand (chars rest)) (rw
    (chars-append t rest utf8, list_all-append) at h) in
    let stands = All-contains Stands range_completions more (All-from_recursion Stands range_completions all_stand) is in
    rw (chars-append t more utf8, list_all-append) (and_from (list_all may_stand (chars t)) (list_all may_stand (chars more)) here.0 stands)

-- ---- each dialect

pub goes_on : (dialect : Dialect) (t rest : Text) → IsUtf8 t → IsTextAs dialect (t ++ rest) → GoesOn (IsTextAs dialect) range_completions t
goes_on Cargo t rest utf8 is = bytes_go_on requirements range_completions refl t rest is
goes_on Npm t rest utf8 (tree, spelled) =
    let w = bytes_go_on (range_texts grammar.Npm npm_words) range_completions refl t rest (tree, spelled.spelled) in
    let stands = still_stand t rest w.1 utf8 spelled.characters (w.0, w.2, w.3) in
    (w.0, w.1, w.2, w.3, (w.4.0, record { spelled = w.4.1; characters = stands }))
goes_on d t rest utf8 is = bytes_go_on (range_texts grammar.Crate crate_words) range_completions refl t rest is
