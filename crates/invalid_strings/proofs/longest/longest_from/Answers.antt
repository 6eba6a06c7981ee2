use Rattle.std.proofs.Common.{◌<◌, arith}
use Rattle.invalid_strings.proofs.LongestPrefixes.{completed_text_longest, first_searched}
use Rattle.invalid_strings.proofs.LongestPrefixes.{good_moved, bad_moved, found_longest}
use Rattle.invalid_strings.proofs.longest.longest_from.Goals as goal

pub returns-then-is_prefix-clause-longest : goal.returns-then-is_prefix-clause-longest
returns-then-is_prefix-clause-longest g c =
    let l = g.L.Language in
    completed_text_longest (l.is_text c.args.language.now) (l.completions c.args.language.now) c.args.text.now
    c.requires.completions (c.is_prefix.ensures.found.0 c.if-is_prefix.true)

pub loop-good-init : goal.loop-good-init
loop-good-init g c =
    let l = g.L.Language in
    record {
      searched = first_searched (l.is_text c.args.language.now) (l.completions c.args.language.now) c.args.text.now
          c.requires.completions c.args.prefix c.requires.boundary c.requires.prefix c.utf8.text
          (λ goes. let h = c.is_prefix.ensures.found.1 goes in cc);
      room = c.is_prefix.ensures.room;
    }

pub returns-then-middle-good-clause-longest : goal.returns-then-middle-good-clause-longest
returns-then-middle-good-clause-longest g c =
    let l = g.L.Language in
    found_longest (l.is_text c.args.language.now) (l.completions c.args.language.now) c.args.text.now
    c.requires.completions c.utf8.text c.loop-good.good c.loop-good.bad c.loop-good.invariant.searched
    (c.between-middle.ensures.none c.if-middle-good.true)

pub loop-good-preserved-then-is_prefix-2 : goal.loop-good-preserved-then-is_prefix-2
loop-good-preserved-then-is_prefix-2 g c =
    let l = g.L.Language in
    let e = c.between-middle.ensures in
    let after : c.loop-good.good < c.between-middle.result = omega arith in
    record {
      room = omega arith;
      searched =
          good_moved (l.is_text c.args.language.now) (l.completions c.args.language.now) c.args.text.now
          c.requires.completions c.loop-good.good c.loop-good.bad c.between-middle.result
          c.loop-good.invariant.searched after (e.before after) (e.boundary after) c.range.result.now c.range.ensures.value
          (c.is_prefix-in-loop-good.ensures.found.0 c.if-is_prefix-2.true);
    }

pub loop-good-preserved : goal.loop-good-preserved
loop-good-preserved g c =
    let l = g.L.Language in
    let e = c.between-middle.ensures in
    let after : c.loop-good.good < c.between-middle.result = omega arith in
    record {
      room = omega arith;
      searched =
          bad_moved (l.is_text c.args.language.now) (l.completions c.args.language.now) c.args.text.now
          c.requires.completions c.loop-good.good c.loop-good.bad c.between-middle.result
          c.loop-good.invariant.searched after (e.before after) (e.boundary after) c.range.result.now c.range.ensures.value c.utf8.text
          (λ goes. let h = c.is_prefix-in-loop-good.ensures.found.1 goes in cc);
    }
