use Rattle.std.proofs.Common.{◌≡◌, ◌∙◌, IfOk, Result, alloc_error, sym, true}
use Rattle.std.specs.declared.alloc.AllocError.{AllocError}
use Rattle.semver_parser.specs.Versions.{PlainVersion}
use Rattle.semver_texts.specs.declared.grammar.Digits.{Digits}
use Rattle.version_sets.specs.VersionSets.{SetValue, contains, Fits}
use Rattle.result_laws.specs.OneResult.{AreOne, itself}
use Rattle.result_laws.proofs.OneResult.{one_made, of_ok}
use Rattle.result_laws.proofs.SameSets.{Alike, ReadsAs}
use Rattle.result_laws.proofs.sets.one_all.Goals as goal

abbrev HasAll : SetValue → Type 0
HasAll set = (v : PlainVersion) → Fits v → contains set v ≡ true

one : (d : Digits) (r s : Result SetValue AllocError) → Alike r s → ReadsAs d r → ReadsAs d s → IfOk r HasAll → IfOk s HasAll
    → AreOne alloc_error itself r s
one d r s alike dr ds h k = one_made itself r s (λ a b is is'.
    of_ok _ is' (of_ok _ is alike) (of_ok _ is dr ∙ sym (of_ok _ is' ds)) (λ v fits. of_ok HasAll is h v fits ∙ sym (of_ok HasAll is' k v fits)))

pub returns : goal.returns
returns c =
    let r = c.all-first.ensures in
    let s = c.all-second.ensures in
    record { one = one c.args.digits _ _ c.results_are_alike.ensures.alike r.digits s.digits r.all s.all }
