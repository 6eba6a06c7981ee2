use Rattle.invalid_strings.specs.Prefixes.{Begins}
use Rattle.invalid_strings.proofs.LongestPrefixes.{one_of_each}
use Rattle.invalid_strings.proofs.laws.one_offset.Goals as goal

pub returns : goal.returns
returns g c =
    let is = Begins (g.L.Language.is_text c.args.language.now) in
    record {
      one = one_of_each is c.args.text.now c.longest_prefix.result c.longest_prefix-2.result c.longest_prefix.ensures c.longest_prefix-2.ensures;
    }
