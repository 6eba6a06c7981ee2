-- A means of proof, and a part of the view of `Lines`: what a filter decides about one line.
use Rattle.std.specs.Prelude.{◌≡◌, ◌≢◌, ◌≤◌, ◌++◌, ◌⊎◌, ℕ, Bool, true, false, List, [], ◌∷◌, All}
use Rattle.std.specs.Prelude.{IsTrue, String, length, map, string_bytes, take}
use Rattle.std.specs.Global.{Global}
use Rattle.std.specs.Io.{IsEmptyOrEndsWith}
use Rattle.semver_versions.specs.VersionRefs.{version_of}
use Rattle.semver_versions.specs.ReadVersions.{read_plain}
use Rattle.semver_texts.specs.Texts.{Text}
use Rattle.semver_texts.specs.Versions.{VersionValue}
use Rattle.release_filter.specs.Counting.{counts_value}
use Rattle.release_filter.specs.LineTexts.{IsWholeLine, after_mark, longest_front}
use Rattle.release_filter.specs.Matching.{matches}
use Rattle.release_filter.specs.Pieces.{FoldValue, LinesValue, TakesLines}
use Rattle.release_filter.specs.Selections.{HeldValue, SelectedValue}
use Rattle.semver_texts.specs.declared.grammar.Grammar.{Grammar}
use Rattle.release_filter.specs.Verdicts.{LineRule, SpellsAfter, Verdict, dropped, empty}
use Rattle.release_filter.specs.Verdicts.{given_after, invalid, kept, reported}
use Rattle.release_filter.specs.declared.judge.Judge.{Judge}
use Rattle.release_filter.specs.declared.judge.Judged.{Judged}
use Rattle.release_filter.specs.declared.judge.Judged.TheVariants.{NotAVersion, Outside, Kept}
use Rattle.release_filter.specs.declared.lines.Fold.{Fold}
use Rattle.release_filter.specs.declared.held.Held.{Held}
use Rattle.release_filter.specs.declared.held.SelectedLine.{SelectedLine}

abbrev pub texts : List (String Global) → List Text
texts prefixes = map (λ prefix. string_bytes prefix) prefixes

abbrev pub rule_of : Judge → LineRule
rule_of j = record {
  filter = j.range;
  prefixes = texts j.prefixes.items;
  ending = j.ending;
  strips_prefix = j.strips_prefix;
}

abbrev pub selected_value : SelectedLine → SelectedValue
selected_value k = record { version = read_plain k.version; line = k.bytes.items }

abbrev pub held_value : Held → HeldValue
held_value h = record { selection = h.selection; lines = map selected_value h.lines.items }

abbrev pub fold_value : Fold → FoldValue
fold_value f = record {
  rule = rule_of f.judge;
  is_strict = f.is_strict;
  held = held_value f.held;
  counts = counts_value f.counts;
}

-- ---- one line

-- the verdict on a line with this text, if it has no version
abbrev pub without_version : Text → Verdict
without_version [] = empty
without_version (x ∷ xs) = invalid (take reported (x ∷ xs))

abbrev pub verdict_of : Judged → Verdict
verdict_of (NotAVersion text) = without_version text.now
verdict_of Outside = dropped
verdict_of (Kept borrowed given) = kept (version_of borrowed).plain given.now

-- `first` is this prefix, and the text is the prefix followed by the text of this version
abbrev pub HasOne : Grammar → Text → Text → Text → VersionValue → Type 0
HasOne grammar prefix text first v = (first ≡ prefix) × SpellsAfter grammar prefix text v

-- what was decided about a line with this text, if `Has` says which version it has after which
-- prefix
abbrev pub Judges : LineRule → (Text → VersionValue → Type 0) → Text → Text → Judged → Type 0
Judges rule Has text line (NotAVersion said) =
    ((prefix : Text) (v : VersionValue) → ¬ (Has prefix v)) × (said.now ≡ text)
Judges rule Has text line Outside = (prefix : Text) × (v : VersionValue) × Has prefix v
    × (matches rule.filter v ≡ false)
Judges rule Has text line (Kept borrowed given) = (prefix : Text) × (v : VersionValue)
    × Has prefix v × IsTrue (matches rule.filter v) × (v ≡ version_of borrowed)
    × (given.now ≡ given_after rule (length prefix) line)

-- ---- a piece

-- a piece in three parts: the end of the line that was begun before, whole lines, and the beginning
-- of another line. If no line ends in the piece, all of it is the last part
pub record IsCut (end : ℕ) (piece first whole begun : Text) : Type 0 where
  pub parts : piece ≡ first ++ (whole ++ begun)
  pub ends_first : ((first ≡ []) × (whole ≡ [])) ⊎ IsWholeLine end first
  pub ends_whole : IsEmptyOrEndsWith whole end
  pub no_end : All (λ b. b ≢ end) begun

-- the bytes as a line, if there are any
abbrev pub some_line : Text → List Text
some_line [] = []
some_line (x ∷ xs) = (x ∷ xs) ∷ []

-- the line that has begun was taken with these bytes at its end, if it isn't empty then
pub record EndsLine (s : LinesValue) (end : Text) (t : LinesValue) (old new : Text) : Type 0 where
  pub takes : TakesLines s.fold (some_line (after_mark s.at_front (s.begun ++ end))) t.fold old new
  pub state : t ≡ record { fold = t.fold; at_front = s.at_front; begun = [] }

-- the bytes that are held of a line that has not ended: none of them ends a line, and there are at
-- most `longest_front`
pub record IsBegun (end : ℕ) (begun : Text) : Type 0 where
  pub no_end : All (λ b. b ≢ end) begun
  pub short : length begun ≤ longest_front

-- what is appended to the last line: `end`, if each line is to have an end and the line isn't empty
abbrev pub closing : Bool → Text → Text → Text
closing true [] end = []
closing true (x ∷ xs) end = end
closing false line end = []
