-- Which of the kept lines are wanted: each one at once, or at the end of the text the one with the
-- highest or the lowest version, or all of them sorted.
use Rattle.std.specs.Prelude.{◌≡◌, ◌≢◌, ◌≤◌, ℕ, Bool, true, false, List, [], ◌∷◌, ◌++◌, map, filter}
use Rattle.std.specs.Prelude.{reverse}
use Rattle.std.specs.List.{AllByRecursion, AllPairs, concat}
use Rattle.std.specs.List.Sorted.{IsPermutation}
use Rattle.std.specs.Ordering.{flip_args, is_eq}
use Rattle.std.specs.declared.cmp.Ordering.{Ordering}
use Rattle.std.specs.declared.cmp.Ordering.TheVariants.{Less, Greater}
use Rattle.semver_texts.specs.Precedence.{precedence}
use Rattle.semver_texts.specs.Texts.{Text}
use Rattle.semver_texts.specs.Versions.{PlainVersion}
use Rattle.release_filter.specs.Verdicts.{Verdict, kept, dropped, invalid, empty}
use Rattle.release_filter.specs.declared.selection.Selection.{Selection}
use Rattle.release_filter.specs.declared.selection.Selection.TheVariants.{Each, Highest, Lowest}
use Rattle.release_filter.specs.declared.selection.Selection.TheVariants.{Sorted, Reversed}

-- the version of a kept line without its build metadata, and the bytes to write for the line
pub record SelectedValue : Type 0 where
  pub version : PlainVersion
  pub line : Text

-- which lines are wanted, and the lines that are held until the end of the text
pub record HeldValue : Type 0 where
  pub selection : Selection
  pub lines : List SelectedValue

-- the same selection with no line held
abbrev pub emptied : HeldValue → HeldValue
emptied h = record h { lines = [] }

-- whether the lines are sorted; then each gets an end
abbrev pub is_sorted : Selection → Bool
is_sorted Each = false
is_sorted Highest = false
is_sorted Lowest = false
is_sorted Sorted = true
is_sorted Reversed = true

-- whether only one line is wanted, the best one
abbrev pub is_best : Selection → Bool
is_best Each = false
is_best Highest = true
is_best Lowest = true
is_best Sorted = false
is_best Reversed = false

-- the kept line of a verdict, if there is one
abbrev pub selected_as : Verdict → List SelectedValue
selected_as (kept version given) = record { version = version; line = given } ∷ []
selected_as dropped = []
selected_as empty = []
selected_as (invalid front) = []

-- the kept lines of some verdicts, in their order and with repeats
abbrev pub selected_of : List Verdict → List SelectedValue
selected_of [] = []
selected_of (v ∷ vs) = selected_as v ++ selected_of vs

-- the bytes of the lines, one after another
abbrev pub text_of : List SelectedValue → Text
text_of lines = concat (map (λ k. k.line) lines)

-- ---- the highest, and the lowest

-- in an order, the line is the first of the highest ones: each line before it is below it, and no
-- line after it is above it
pub record IsFirstHighest (order : PlainVersion → PlainVersion
    → Ordering) (lines : List SelectedValue)
    (best : SelectedValue) : Type 0 where
  pub before : List SelectedValue
  pub after : List SelectedValue
  pub split : lines ≡ before ++ best ∷ after
  pub earlier : AllByRecursion (λ k. order k.version best.version ≡ Less) before
  pub later : AllByRecursion (λ k. order k.version best.version ≢ Greater) after

-- a list with only the best of some lines, or an empty list if there are no lines
abbrev pub IsBest : (PlainVersion → PlainVersion → Ordering) → List SelectedValue
    → List SelectedValue → Type 0
IsBest order lines [] = lines ≡ []
IsBest order lines (best ∷ []) = IsFirstHighest order lines best
IsBest order lines (best ∷ other ∷ more) = ⊥

-- precedence, or for the lowest line the reverse of it
abbrev pub order_of : Selection → PlainVersion → PlainVersion → Ordering
order_of Each = precedence
order_of Highest = precedence
order_of Lowest = flip_args precedence
order_of Sorted = precedence
order_of Reversed = precedence

-- ---- all sorted

-- the stable sort of some lines by precedence: the same lines, no line above a later one, and lines
-- with equal versions in the order that they had
pub record IsStableSort (lines sorted : List SelectedValue) : Type 0 where
  pub rearranged : IsPermutation lines sorted
  pub rises : AllPairs (λ x y. precedence x.version y.version ≢ Greater) sorted
  pub stable : (v : PlainVersion) → filter (λ k. is_eq (precedence k.version v)) sorted
      ≡ filter (λ k. is_eq (precedence k.version v)) lines

-- ---- what is written for the kept lines of a text

abbrev pub Writes : Selection → List SelectedValue → Text → Type 0
Writes Each lines written = written ≡ text_of lines
Writes Highest lines written = (best : List SelectedValue)
    × IsBest (order_of Highest) lines best × (written ≡ text_of best)
Writes Lowest lines written = (best : List SelectedValue)
    × IsBest (order_of Lowest) lines best × (written ≡ text_of best)
Writes Sorted lines written = (sorted : List SelectedValue) × IsStableSort lines sorted
    × (written ≡ text_of sorted)
Writes Reversed lines written = (sorted : List SelectedValue) × IsStableSort lines sorted
    × (written ≡ text_of (reverse sorted))

-- ---- the effects of lines and of the end of the text

-- after some kept lines, these bytes were appended for them, and these lines are held
abbrev pub HoldsBy : Selection → HeldValue → List SelectedValue → HeldValue → Text → Type 0
HoldsBy Each h lines g appended = (g ≡ h) × (appended ≡ text_of lines)
HoldsBy Highest h lines g appended = IsBest (order_of Highest) (h.lines ++ lines) g.lines
    × (g ≡ record h { lines = g.lines }) × (appended ≡ [])
HoldsBy Lowest h lines g appended = IsBest (order_of Lowest) (h.lines ++ lines) g.lines
    × (g ≡ record h { lines = g.lines }) × (appended ≡ [])
HoldsBy Sorted h lines g appended =
    (g ≡ record h { lines = h.lines ++ lines }) × (appended ≡ [])
HoldsBy Reversed h lines g appended =
    (g ≡ record h { lines = h.lines ++ lines }) × (appended ≡ [])

abbrev pub Holds : HeldValue → List SelectedValue → HeldValue → Text → Type 0
Holds h lines g appended = HoldsBy h.selection h lines g appended

-- the order in which sorted lines are written
abbrev pub in_order : Selection → List SelectedValue → List SelectedValue
in_order Each lines = lines
in_order Highest lines = lines
in_order Lowest lines = lines
in_order Sorted lines = lines
in_order Reversed lines = reverse lines

-- at the end of the text, the held lines are appended, sorted
abbrev pub Answers : HeldValue → Text → Type 0
Answers h appended = (sorted : List SelectedValue) × IsStableSort h.lines sorted
    × (appended ≡ text_of (in_order h.selection sorted))

-- if only the best line is wanted, at most one line is held
abbrev pub IsFew : Selection → ℕ → Type 0
IsFew selection count = is_best selection ≡ true → count ≤ 1
