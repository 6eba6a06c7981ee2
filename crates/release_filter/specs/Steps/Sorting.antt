-- A means of proof: the lines that are held, and how they are sorted.
use Rattle.std.specs.Prelude.{Bool, true, List, [], ◌∷◌, map}
use Rattle.std.specs.Ordering.{is_gt, is_lt}
use Rattle.std.specs.declared.cmp.Ordering.{Ordering}
use Rattle.semver_texts.specs.Precedence.{precedence}
use Rattle.semver_texts.specs.Versions.{PlainVersion}
use Rattle.release_filter.specs.Selections.{SelectedValue}
use Rattle.release_filter.specs.Steps.Taking.{selected_value}
use Rattle.release_filter.specs.declared.selection.IndexedLine.{IndexedLine}
use Rattle.release_filter.specs.declared.selection.Selection.{Selection}
use Rattle.release_filter.specs.declared.selection.Selection.TheVariants.{Each, Highest, Lowest}
use Rattle.release_filter.specs.declared.selection.Selection.TheVariants.{Sorted, Reversed}

-- the lines, without their indices
abbrev pub seen_lines : List IndexedLine → List SelectedValue
seen_lines lines = map (λ l. selected_value l.line.now) lines

-- whether a version is better than the best one so far, by how it compares with that
abbrev pub is_better_by : Selection → Ordering → Bool
is_better_by Each o = is_gt o
is_better_by Highest o = is_gt o
is_better_by Lowest o = is_lt o
is_better_by Sorted o = is_gt o
is_better_by Reversed o = is_gt o

-- whether a version is better than that of the first line that is held; it is if no line is held
abbrev pub is_better : Selection → PlainVersion → List SelectedValue → Bool
is_better selection version [] = true
is_better selection version (best ∷ more) =
    is_better_by selection (precedence version best.version)
