use Rattle.std.proofs.Common.{◌^◌, ◌<◌, ap, arith, rules}
use Rattle.std.proofs.lemmas.Iterator.{YieldsList-from_map}
use Rattle.std.proofs.lemmas.Iterator.Consumers.{YieldsList-at}
use Rattle.value_set.specs.Members.{member, list_below}
use Rattle.value_set.proofs.Bits.{has_below}
use Rattle.value_set.proofs.Steps.{values_road}
use Rattle.measure.specs.Tariffs.{price_of, asked_price}
use Rattle.book_report.proofs.Finding.{priced, reduced, cheapest_listed}
use Rattle.book_report.proofs.cheapest.cheapest_of.Goals as goal

pub returns : goal.returns
returns c =
    let s = c.args.values in
    let price = asked_price (price_of c.args.tariff.now.prices) c.args.option in
    let low : s.mask < 2 ^ 32 = omega (arith, c.values.type_inv) in
    let listed = ap (λ s. list_below 32 (member s)) c.values.ensures in
    cheapest_listed 32 (member s) price (λ v there. has_below 32 s.mask v low there) _ c.reduce.result listed
    (reduced _ (λ p b c r q k. search rules) c.map.result _ c.reduce.result c.reduce.ensures.ran
    (YieldsList-from_map _ (priced price) (YieldsList-at c.map.ensures.source (values_road c.values.result)) c.map.ensures.closure (λ x r q k. search rules)))
