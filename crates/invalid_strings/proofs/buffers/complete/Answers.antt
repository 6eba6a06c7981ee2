use Rattle.std.proofs.Common.{◌≡◌, ◌∙◌, ◌++◌, ap, arith, length, string_bytes, take}
use Rattle.std.proofs.Math.Seq.{take-append_seam}
use Rattle.std.proofs.lemmas.Grind.{common_steps}
use Rattle.std.proofs.lemmas.Str.{IsCharBoundary-at_seam}
use Rattle.invalid_strings.proofs.buffers.complete.Goals as goal
use Rattle.invalid_strings.proofs.buffers.complete.Goals.{After-push_str}

pub truncate-requires : goal.truncate-requires
truncate-requires c =
    let h = c.requires.held in
    let at = IsCharBoundary-at_seam _ c.args.prefix.now h.more h.is h.utf8 in
    λ within. (at.0, λ some. at.1)

completed : (c : After-push_str) → string_bytes c.push_str.new.self ≡ c.args.prefix.now ++ c.args.completion.now
completed c =
    let h = c.requires.held in
    let front = c.truncate.ensures.bytes ∙ ap (take (length c.args.prefix.now)) h.is ∙ take-append_seam c.args.prefix.now h.more in
    grind (arith, common_steps, front)

pub returns-clause-completed : goal.returns-clause-completed
returns-clause-completed c = completed c

pub returns-clause-held : goal.returns-clause-held
returns-clause-held c = record { more = c.args.completion.now; utf8 = c.utf8.completion; is = completed c }
