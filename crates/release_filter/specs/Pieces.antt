-- A text that comes in pieces: the effects of a piece, of the end of the text and of an error, and
-- the state after each.
use Rattle.std.specs.Prelude.{◌≡◌, ◌&&◌, Bool, true, false, List, [], ◌∷◌, ◌++◌, IsTrue, take}
use Rattle.semver_texts.specs.Texts.{Text, is_empty}
use Rattle.release_filter.specs.Counting.{CountsValue, counted}
use Rattle.release_filter.specs.LineTexts.{AreCut, after_mark, end_byte, lines_in, longest_front}
use Rattle.release_filter.specs.LineTexts.{marked_off}
use Rattle.release_filter.specs.Verdicts.{AreVerdictsOn, LineRule, Verdict, has_invalid, invalid}
use Rattle.release_filter.specs.Selections.{Answers, HeldValue, Holds, Writes, emptied, is_sorted}
use Rattle.release_filter.specs.Selections.{selected_of}
use Rattle.release_filter.specs.declared.lines.LinesError.{LinesError}
use Rattle.release_filter.specs.declared.lines.LinesError.TheVariants.{OutOfMemory, NoVersion}

-- how lines are treated, and the state after the lines so far: which lines are kept, whether an
-- invalid line is an error, the lines that are held until the end of the text, and the counts
pub record FoldValue : Type 0 where
  pub rule : LineRule
  pub is_strict : Bool
  pub held : HeldValue
  pub counts : CountsValue

-- the state after some bytes of a text: that after the lines that have ended, whether none has
-- ended yet, and the first bytes of the line that has begun
pub record LinesValue : Type 0 where
  pub fold : FoldValue
  pub at_front : Bool
  pub begun : Text

-- ---- lines

-- these lines were taken: each is counted, and the kept ones that are wanted were appended or are
-- held
pub record Folds (f : FoldValue) (lines : List Text) (verdicts : List Verdict) (g : FoldValue)
    (old new : Text) : Type 0 where
  pub each : AreVerdictsOn f.rule lines verdicts
  pub added : Text
  pub holds : Holds f.held (selected_of verdicts) g.held added
  pub appended : new ≡ old ++ added
  pub state : g ≡ record f { held = g.held; counts = counted f.counts verdicts }

-- all these lines were taken, and if invalid lines are errors, none is invalid
pub record TakesLines (f : FoldValue) (lines : List Text) (g : FoldValue)
    (old new : Text) : Type 0 where
  pub verdicts : List Verdict
  pub folds : Folds f lines verdicts g old new
  pub valid : IsTrue f.is_strict → has_invalid verdicts ≡ false

-- why no more lines than these were taken: an allocation failed, and no line before is an error; or
-- invalid lines are errors, and the last of these lines is the first invalid one and has this
-- number
abbrev pub StopsBy : LinesError → FoldValue → List Verdict → CountsValue → Type 0
StopsBy OutOfMemory f verdicts counts = IsTrue f.is_strict → has_invalid verdicts ≡ false
StopsBy (NoVersion number) f verdicts counts = IsTrue f.is_strict
    × (before : List Verdict) × (front : Text) × (verdicts ≡ before ++ invalid front ∷ [])
    × (has_invalid before ≡ false) × (number ≡ counts.lines)

-- the first ones of these lines were taken, and then there was an error. The output for the lines
-- taken was appended, and these are the counts after them
pub record Stops (error : LinesError) (f : FoldValue) (lines : List Text) (counts : CountsValue)
    (old new : Text) : Type 0 where
  pub taken : List Text
  pub others : List Text
  pub parts : lines ≡ taken ++ others
  pub verdicts : List Verdict
  pub left : FoldValue
  pub folds : Folds f taken verdicts left old new
  pub counts_left : counts ≡ left.counts
  pub why : StopsBy error f verdicts counts

-- ---- pieces

-- a piece was taken: the lines that end in it were taken, and the first bytes of the line that it
-- begins are held
pub record Takes (s : LinesValue) (piece : Text) (t : LinesValue) (old new : Text) : Type 0 where
  pub lines : List Text
  pub unended : Text
  pub cut : AreCut (end_byte s.fold.rule.ending) (s.begun ++ piece) lines unended
  pub takes : TakesLines s.fold (marked_off s.at_front lines) t.fold old new
  pub state : t ≡ record {
    fold = t.fold;
    at_front = s.at_front && is_empty lines;
    begun = take longest_front unended;
  }

-- there was an error at one of the lines that end in a piece, or after them
pub record StopsIn (error : LinesError) (s : LinesValue) (piece : Text) (counts : CountsValue)
    (old new : Text) : Type 0 where
  pub lines : List Text
  pub unended : Text
  pub cut : AreCut (end_byte s.fold.rule.ending) (s.begun ++ piece) lines unended
  pub stops : Stops error s.fold (marked_off s.at_front lines) counts old new

-- the last line, if it has no end of its own; if `closes` is true, it gets one
abbrev pub last_lines : Bool → LinesValue → List Text
last_lines closes s =
    lines_in closes (end_byte s.fold.rule.ending) (after_mark s.at_front s.begun)

-- the end of a file was taken; if `closes` is true, a last line without an end got one
pub record Ends (closes : Bool) (s t : LinesValue) (old new : Text) : Type 0 where
  pub takes : TakesLines s.fold (last_lines closes s) t.fold old new
  pub state : t ≡ record { fold = t.fold; at_front = true; begun = [] }

-- the same state with no line held
abbrev pub concluded : LinesValue → LinesValue
concluded s = record s { fold = record s.fold { held = emptied s.fold.held } }

-- whether a last line without an end gets one: if the lines are sorted
abbrev pub closes_last : LinesValue → Bool
closes_last s = is_sorted s.fold.held.selection

-- the end of the text was taken, and the rest of the output was appended. After that the state is
-- that before the first byte of a text, except for the counts
pub record Finishes (s t : LinesValue) (old new : Text) : Type 0 where
  pub last : LinesValue
  pub before : Text
  pub ends : Ends (closes_last s) s last old before
  pub rest : Text
  pub answers : Answers last.fold.held rest
  pub appended : new ≡ before ++ rest
  pub state : t ≡ concluded last

-- ---- a whole text

-- pieces were taken one after another
abbrev pub TakesPieces : LinesValue → List Text → LinesValue → Text → Text → Type 0
TakesPieces s [] t old new = (t ≡ s) × (new ≡ old)
TakesPieces s (piece ∷ pieces) t old new = (m : LinesValue) × (mid : Text)
    × Takes s piece m old mid × TakesPieces m pieces t mid new

-- the state before the first byte of a text
abbrev pub begun_text : LinesValue → LinesValue
begun_text s = record (concluded s) { at_front = true; begun = [] }

-- all lines of a text were taken, and of the kept ones those that are wanted were appended. After
-- that the state is that before the first byte of a text, except for the counts. If invalid lines
-- are errors, none is invalid
pub record Completes (s : LinesValue) (text : Text) (t : LinesValue) (old new : Text) : Type 0 where
  pub verdicts : List Verdict
  pub each : AreVerdictsOn s.fold.rule
      (lines_in (closes_last s) (end_byte s.fold.rule.ending) text) verdicts
  pub written : Text
  pub writes : Writes s.fold.held.selection (selected_of verdicts) written
  pub appended : new ≡ old ++ written
  pub state : t ≡ record (begun_text s) {
    fold = record s.fold {
      held = emptied s.fold.held;
      counts = counted s.fold.counts verdicts;
    };
  }
  pub valid : IsTrue s.fold.is_strict → has_invalid verdicts ≡ false
