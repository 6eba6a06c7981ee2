-- A means of proof, which only the view of `Terms` cites: the terms that a cursor has left.
use Rattle.std.specs.Iterator.{YieldsFirstBy}
use Rattle.std.specs.Prelude.{ℕ, Option, List}
use Rattle.semver_texts.specs.declared.grammar.Grammar.{Grammar}
use Rattle.semver_ranges.specs.Steps.FoundItems.{items_left}
use Rattle.semver_ranges.specs.declared.cursor.Cursor.{Cursor}
use Rattle.range_terms.specs.declared.term.Term.{Term}
use Rattle.range_terms.specs.WrittenTerms.{WrittenTerm, term_value, terms_of}

-- the terms that a cursor has left, in a text of n bytes, from the range with the index k on
abbrev pub terms_left : Grammar → ℕ → ℕ → Cursor → List WrittenTerm
terms_left d n k cursor =
    terms_of n k (items_left d cursor.begins_range cursor.rest.now)

-- a term is the first that the cursor has left, and the others are left after it
abbrev pub YieldsTerm : Grammar → ℕ → ℕ → Cursor → Option Term → ℕ → Cursor → Type 0
YieldsTerm d n k before o k' after =
    YieldsFirstBy term_value (λ terms. terms) (terms_left d n k before) o (terms_left d n k' after)
