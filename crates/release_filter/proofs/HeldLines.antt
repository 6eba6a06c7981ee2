-- Lists of held lines in memory, and the values that they stand for.
use Rattle.std.proofs.Common.{◌≡◌, ◌∙◌, ◌++◌, ◌∷◌, [], List, ℕ, ap, arith, drop, length, map, refl, reverse, sym}
use Rattle.std.proofs.lemmas.List.{length-map, map-append, reverse-append}
use Rattle.semver_texts.specs.Texts.{Text}
use Rattle.release_filter.specs.Selections.{IsFew, text_of}
use Rattle.release_filter.specs.Steps.Sorting.{seen_lines}
use Rattle.release_filter.specs.Steps.Taking.{held_value, selected_value}
use Rattle.release_filter.specs.declared.held.Held.{Held}
use Rattle.release_filter.specs.declared.selection.IndexedLine.{IndexedLine}

pub few_held : (h : Held) → IsFew (held_value h).selection (length (held_value h).lines)
few_held h = λ best. omega (arith, length-map h.lines.items selected_value, h.few best)

-- the first `count` lines were appended
abbrev pub AppendsSome : List IndexedLine → ℕ → Text → Text → Type 0
AppendsSome lines count old new =
    (done : Text) × (new ≡ old ++ done) × (done ++ text_of (seen_lines (drop count lines)) ≡ text_of (seen_lines lines))

map_reverse : {A B : Type 0} (f : A → B) (xs : List A) → map f (reverse xs) ≡ reverse (map f xs)
map_reverse f [] = refl
map_reverse f (x ∷ xs) =
    ap (map f) (reverse-append (x ∷ []) xs) ∙ map-append f (reverse xs) (x ∷ []) ∙ ap (λ l. l ++ f x ∷ []) (map_reverse f xs)
    ∙ sym (reverse-append (f x ∷ []) (map f xs))

pub seen_reversed : (lines : List IndexedLine) → seen_lines (reverse lines) ≡ reverse (seen_lines lines)
seen_reversed lines = map_reverse (λ (l : IndexedLine). selected_value l.line.now) lines
