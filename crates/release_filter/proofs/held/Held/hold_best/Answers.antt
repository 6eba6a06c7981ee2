use Rattle.std.proofs.Common.{◌≡◌, ◌≤◌, ◌++◌, ◌∷◌, ◌∙◌, [], List, ap, arith, length, map, sym}
use Rattle.std.proofs.lemmas.List.{length-map}
use Rattle.semver_texts.specs.Texts.{Text}
use Rattle.semver_versions.specs.VersionRefs.{version_of}
use Rattle.release_filter.specs.Selections.{SelectedValue}
use Rattle.release_filter.specs.Steps.Sorting.{is_better}
use Rattle.release_filter.specs.Steps.Taking.{selected_value}
use Rattle.release_filter.specs.declared.held.SelectedLine.{SelectedLine}
use Rattle.release_filter.proofs.Holding.{best_wanted, replaces, stays}
use Rattle.release_filter.proofs.held.Held.hold_best.Goals as goal

pub returns-then-not-is_better-clause-best : goal.returns-then-not-is_better-clause-best
returns-then-not-is_better-clause-best c =
    let w = c.args.self.now.selection in
    let lines = c.args.self.now.lines.items in
    let version = (version_of c.args.borrowed.now).plain in
    let few : length (map selected_value lines) ≤ 1 =
    omega (arith, length-map lines selected_value, c.args.self.now.few (best_wanted w c.requires)) in
    let told = ap (λ (l : List SelectedLine). is_better w version (map selected_value l)) (sym c.as_slice.ensures.value)
    ∙ sym c.is_better.ensures ∙ c.if-not-is_better.true in
    stays c.precedence_is_total.ensures.total w (record { version = version; line = c.args.line.now })
    (map selected_value lines) few told

pub returns-clause-best : goal.returns-clause-best
returns-clause-best c =
    let w = c.args.self.now.selection in
    let lines = c.args.self.now.lines.items in
    let version = (version_of c.args.borrowed.now).plain in
    let k : SelectedValue = record { version = version; line = c.args.line.now } in
    let few : length (map selected_value lines) ≤ 1 =
    omega (arith, length-map lines selected_value, c.args.self.now.few (best_wanted w c.requires)) in
    let told = ap (λ (l : List SelectedLine). is_better w version (map selected_value l)) (sym c.as_slice.ensures.value)
    ∙ sym c.is_better.ensures ∙ c.if-not-is_better.false in
    let bytes = c.in_ok-extend_from_slice.ensures.items ∙ ap (λ (l : Text). l ++ c.args.line.now) c.clear-2.ensures.items in
    let one : SelectedLine = record { version = c.in_ok-version.version; bytes = c.extend_from_slice.new.self } in
    let items = c.in_ok-push.ensures.items ∙ ap (λ (l : List SelectedLine). l ++ one ∷ []) c.clear.ensures.items in
    let made : selected_value one ≡ k = λ i. record { version = c.in_ok-version.ensures.plain i; line = bytes i } in
    rw (ap (map selected_value) items ∙ ap (λ x. x ∷ []) made)
    (replaces c.precedence_is_total.ensures.total w k (map selected_value lines) few told)
