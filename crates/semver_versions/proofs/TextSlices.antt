-- A part of a version that is in a text ends at a character boundary of the text.
use Rattle.std.proofs.Common.{◌≡◌, ℕ, ◌+◌, ◌-◌, ◌<◌, ◌≤◌, IsTrue, length, get_or, drop, sym, ap, ◌∙◌, subst, arith}
use Rattle.std.specs.List.{list_all}
use Rattle.std.specs.Str.{IsCharBoundary, IsUtf8}
use Rattle.std.proofs.lemmas.List.{get_or-drop, get_or-take, length-drop, length-take}
use Rattle.std.proofs.lemmas.Str.{IsCharBoundary-after_ascii}
use Rattle.semver_texts.specs.Texts.{Text, cut_at_dots, is_part}
use Rattle.semver_texts.proofs.DottedParts.{dotted_ascii}
use Rattle.semver_texts.proofs.PartRuns.{parts_pass}
use Rattle.semver_versions.specs.VersionRefs.{StandsAt}

module _ (offset : ℕ) (part text : Text) (place : StandsAt offset part text) (some : 0 < length part) where
  pub within : offset + length part ≤ length text
  within = omega (arith, ap length place, length-take (length part) (drop offset text), length-drop offset text, some)

  -- the last byte of the part is the byte at its offset in the text
  last_byte : get_or text (offset + (length part - 1)) 0 ≡ get_or part (length part - 1) 0
  last_byte =
      sym (get_or-drop offset text (length part - 1) 0)
      ∙ sym (get_or-take (length part) (drop offset text) (length part - 1) 0 (omega (arith, some)))
      ∙ ap (λ t. get_or t (length part - 1) 0) place

  pub ends_between : IsTrue (list_all is_part (cut_at_dots part)) → IsUtf8 text → IsCharBoundary text (offset + length part)
  ends_between parts utf8 =
      let last : ℕ = offset + (length part - 1) in
      let small : get_or text last 0 < 128 = subst (λ b. b < 128) (sym last_byte)
      (dotted_ascii part (parts_pass part parts) (length part - 1)) in
      let end : last + 1 ≡ offset + length part = omega (arith, some) in
      subst (IsCharBoundary text) end (IsCharBoundary-after_ascii text last utf8 (omega (arith, within, some)) small)
