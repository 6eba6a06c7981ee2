-- The bytes that a version of its own keeps.
use Rattle.std.specs.Prelude.{ℕ, [], Option, Some, None}
use Rattle.std.specs.Box.{boxed_slice_items}
use Rattle.std.specs.declared.boxed.BoxedSlice.{BoxedSlice}
use Rattle.semver_texts.specs.Texts.{Text}

-- the bytes of the pre-release, and then those of the build metadata; none if there is neither
abbrev pub part_bytes : {Z : Type 0} → Option (BoxedSlice ℕ Z) → Text
part_bytes None = []
part_bytes (Some parts) = boxed_slice_items parts
