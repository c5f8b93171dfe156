use Rattle.std.proofs.Common.{◌≡◌, map, fold}
use Rattle.httparse.specs.Grammar.{trim_ows}
use Rattle.ts_wire.specs.Framing.{add_length}
use Rattle.ts_wire.proofs.framing.ContentLength.add_members.Given as goal

abbrev pub invariant-loop-part : goal.invariant-loop-part
invariant-loop-part l = l.self ≡ fold add_length l.fn.self (map (λ p. trim_ows p.now) l.yielded)
