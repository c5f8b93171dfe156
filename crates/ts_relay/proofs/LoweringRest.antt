-- Each of the last writes of a transaction lowers what it has left to do.
use Rattle.std.proofs.Common.{ℕ, ◌+◌, ◌<◌, ◌≤◌, length, Bool, true, arith, sym, subst}
use Rattle.std.specs.Prelude.{Some}
use Rattle.ts_hooks.specs.declared.txn_end.TxnEnd.{TxnEnd}
use Rattle.ts_link.specs.Link.{AgainsFall, Fewer}
use Rattle.ts_vconn.specs.declared.moves.Pushed.{Pushed}
use Rattle.ts_vconn.specs.declared.moves.Pushed.TheVariants as V
use Rattle.ts_vconn.specs.MoveAnswers.{push_again}
use Rattle.ts_phases.specs.Holding.{IfTold}
use Rattle.ts_phases.specs.Lowering.{agains_left}
use Rattle.ts_relay.specs.LoweringBody.{close_left, ended_left, finish_left, rest_after}
use Rattle.ts_phases.specs.Moving.{WritesClient}
use Rattle.ts_phases.specs.View.{View}
use Rattle.ts_relay.specs.declared.last_writes.BodyStep.TheVariants as S
use Rattle.ts_phases.proofs.Lowering.{first_falls, least_went, one_if, told_fewer, went_some}
use Rattle.ts_phases.proofs.LoweringSteps.{client_told, sent_next}

last_next : (n a : ℕ) → n ≤ 1 → n < 2 + a
last_next n a few = omega (arith, few)

module _ (v w : View) (p : Pushed) (writes : WritesClient true v w p) where
  rest_again : AgainsFall (push_again p) (agains_left v) (agains_left w)
  rest_again = subst (λ (x : View). AgainsFall (push_again p) (agains_left v) (agains_left x))
      (sym writes.others)
      (first_falls (push_again p) v.client.look.agains w.client.look.agains v.origin.look.agains
      writes.client.pushes.calls.agains)

  rest_more : 1 ≤ least_went p + one_if (push_again p) → Fewer (finish_left v) (finish_left w)
  rest_more some = told_fewer (λ x y. 2 + (x + length v.client.outbox))
      (λ x y. 2 + (x + length w.client.outbox)) (push_again p) 0 (agains_left v) (agains_left w) (Some 0)
      (Some 0) rest_again (omega arith)
      (λ x x' y y' again upload. sent_next (one_if (push_again p)) (least_went p) x x'
      (length v.client.outbox) (length w.client.outbox) again
      (went_some p v.client.outbox w.client.outbox writes.client.pushes.went) some)

  rest_close : Fewer (finish_left v) (close_left w)
  rest_close = told_fewer (λ x y. 2 + (x + length v.client.outbox)) (λ x y. 1) (push_again p) 0
      (agains_left v) (agains_left w) (Some 0) (Some 0) rest_again (omega arith)
      (λ x x' y y' again upload. last_next 1 (x + length v.client.outbox) (omega arith))

  rest_end : Fewer (finish_left v) (ended_left w)
  rest_end = told_fewer (λ x y. 2 + (x + length v.client.outbox)) (λ x y. 0) (push_again p) 0 (agains_left v)
      (agains_left w) (Some 0) (Some 0) rest_again (omega arith)
      (λ x x' y y' again upload. last_next 0 (x + length v.client.outbox) (omega arith))

module _ (ct ot : Bool) (v w : View) where
  pub rest_goes : (n : ℕ) → WritesClient ct v w (V.Some n)
      → IfTold ct ot (Fewer (finish_left v) (rest_after S.Goes w))
  rest_goes n writes told also = rest_more v w (V.Some n) (client_told ct v w (V.Some n) told writes)
      (omega arith)

  pub rest_waits : WritesClient ct v w V.Again → IfTold ct ot (Fewer (finish_left v) (rest_after S.Waits w))
  rest_waits writes told also = rest_more v w V.Again (client_told ct v w V.Again told writes) (omega arith)

  pub rest_closes : (p : Pushed) (end : TxnEnd) → WritesClient ct v w p
      → IfTold ct ot (Fewer (finish_left v) (rest_after (S.Closes end) w))
  rest_closes p end writes told also = rest_close v w p (client_told ct v w p told writes)

  pub rest_lacks : (p : Pushed) → WritesClient ct v w p
      → IfTold ct ot (Fewer (finish_left v) (rest_after S.Lacks w))
  rest_lacks p writes told also = rest_end v w p (client_told ct v w p told writes)
