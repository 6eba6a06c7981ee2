-- A means of proof: the pieces that an iterator has left, with the versions of its boundaries.
use Rattle.std.specs.Prelude.{List, map}
use Rattle.semver_texts.specs.Versions.{PlainVersion}
use Rattle.semver_texts.specs.Precedence.{precedence}
use Rattle.version_sets.specs.declared.sweep.Piece.{Piece}
use Rattle.version_sets.specs.declared.sweep.Sweep.{Sweep}
use Rattle.version_sets.specs.Steps.Sweeps.{PieceValue, sweep}

module _ {T : Type 0} (place : T → PlainVersion) where
  abbrev pub piece_value : Piece T → PieceValue PlainVersion
  piece_value p =
      record { from = place p.from.now; in_first = p.in_first; in_second = p.in_second }

  abbrev pub pieces_left : Sweep T → List (PieceValue PlainVersion)
  pieces_left w =
      sweep precedence (map place w.first.now) w.in_first w.in_second (map place w.second.now)
