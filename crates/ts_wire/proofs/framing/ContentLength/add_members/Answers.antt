use Rattle.std.proofs.Common.{map, fold, rules, tests, sym, ap, ◌∙◌}
use Rattle.std.proofs.lemmas.Iterator.Splits.{YieldsList-from_slice_split}
use Rattle.std.proofs.lemmas.Iterator.Consumers.{YieldsList-at, YieldsList-end}
use Rattle.std.proofs.lemmas.Simd.{map-map}
use Rattle.httparse.specs.Grammar.{trim_ows}
use Rattle.ts_wire.specs.Values.{is_comma}
use Rattle.ts_wire.specs.Framing.{add_length}
use Rattle.ts_wire.proofs.framing.ContentLength.add_members.Goals as goal

-- the parts that the loop went over are those of the whole value
pub returns : goal.returns
returns c =
    let s = c.split-part-items.ensures in
    c.loop-part.invariant
    ∙ ap (fold add_length c.args.self) (sym (map-map trim_ows (λ p. p.now) c.loop-part.yielded)
    ∙ ap (map trim_ows) (YieldsList-end
    (YieldsList-at c.into_iter-part-iterator.ensures.into_iter_gives
    (YieldsList-from_slice_split _ is_comma c.args.value.now s.rest s.done s.closure
    (λ x b q k. search (rules, tests))))
    c.loop-part.yielded _ c.loop-part.yielded_by _ _ c.in-None.is c.next.ensures.steps).0)
