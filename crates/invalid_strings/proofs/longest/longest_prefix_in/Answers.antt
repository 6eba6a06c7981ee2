use Rattle.std.proofs.Common.{arith}
use Rattle.std.proofs.lemmas.Str.{IsCharBoundary-start}
use Rattle.invalid_strings.proofs.LongestPrefixes.{next_longest, nothing_begins, taken_begins}
use Rattle.invalid_strings.proofs.longest.longest_prefix_in.Goals as goal

pub rounds-init : goal.rounds-init
rounds-init g c =
    let l = g.L.Language in
    record {
      boundary = IsCharBoundary-start c.args.text.now c.utf8.text;
      begins = nothing_begins (l.is_text c.args.language.now) (l.completions c.args.language.now) c.args.text.now c.requires.completions;
      room = omega arith;
    }

pub rounds-preserved : goal.rounds-preserved
rounds-preserved g c =
    let l = g.L.Language in
    record {
      boundary = c.after-next.ensures.boundary;
      begins = taken_begins (l.is_text c.args.language.now) (l.completions c.args.language.now) c.args.text.now c.requires.completions
          c.after-next.result c.range.result.now c.range.ensures.value (c.is_prefix.ensures.found.0 c.if-not-is_prefix.false);
      room = omega (arith, c.is_prefix.ensures.room);
    }

pub returns-then-not-is_prefix-clause-longest : goal.returns-then-not-is_prefix-clause-longest
returns-then-not-is_prefix-clause-longest g c =
    let l = g.L.Language in
    let good = c.likely_prefix-good.ensures in
    let next = c.after-next.ensures in
    next_longest (l.is_text c.args.language.now) (l.completions c.args.language.now) c.args.text.now c.requires.completions
    c.utf8.text c.likely_prefix-good.result c.after-next.result good.boundary good.prefix next.boundary next.next
    c.range.result.now c.range.ensures.value (λ goes. let h = c.is_prefix.ensures.found.1 goes in cc)
