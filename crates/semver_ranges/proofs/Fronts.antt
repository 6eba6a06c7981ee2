-- The longest prefix of a text whose bytes all pass a test, as a loop over the bytes finds it.
use Rattle.std.proofs.Common.{add-one}
use Rattle.std.proofs.lemmas.List.{drop_more}
use Rattle.std.proofs.Common.{◌≡◌, ℕ, ◌+◌, ◌<◌, Bool, true, ◌++◌, length, get_or, take, drop}
use Rattle.std.proofs.Common.{◌∙◌, append_assoc}
use Rattle.std.proofs.Math.Seq.{take-suc}
use Rattle.semver_texts.specs.Texts.{Text}
use Rattle.semver_ranges.specs.Steps.Reading.{front, back}

module _ (p : ℕ → Bool) (t : Text) (i : ℕ) where
  -- skipping a byte that passes doesn't change the rest after the prefix
  pub back_more : i < length t → p (get_or t i 0) ≡ true → back p (drop i t) ≡ back p (drop (i + 1) t)
  back_more within e = rw (drop_more t i 0 within, e)

  -- the invariant of the loop: the prefix is the first i bytes and the prefix of the text after
  -- them
  pub taken_more : i < length t → p (get_or t i 0) ≡ true → front p t ≡ take i t ++ front p (drop i t)
      → front p t ≡ take (i + 1) t ++ front p (drop (i + 1) t)
  taken_more within e so_far = so_far ∙ rw (drop_more t i 0 within, e, add-one, take-suc t i 0 within, append_assoc)
