use Rattle.std.proofs.Common.{Some, inl, ◌≡◌, true, false, refl, ap, arith, sym, subst, length, ◌∙◌}
use Rattle.ts_transform.specs.Seats.{KeepsSeated}
use Rattle.ts_transform.specs.Acting.{GivesOn, KeepsLive, StillGives}
use Rattle.ts_transform.specs.Driving.{IsCause, KeepsOthers}
use Rattle.ts_transform.specs.Cover.{AreAllLive}
use Rattle.ts_transform.proofs.Acting.{still_gives}
use Rattle.ts_transform.proofs.Driving.{acts_in}
use Rattle.ts_transform.proofs.Handled.{begun_other}
use Rattle.ts_transform.proofs.Kept.{acts_none}
use Rattle.ts_lists.proofs.Fronts.{taken_table}
use Rattle.ts_transform.proofs.driven.DrivenChain.handle.Goals as goal

-- The role is that of no stage.
pub returns-in_default-clause-acts : goal.returns-in_default-clause-acts
returns-in_default-clause-acts g c = λ at is stage. absurd (c.in_default.ensures at is stage)

pub returns-in_default-clause-driven : goal.returns-in_default-clause-driven
returns-in_default-clause-driven g c = λ before handled was runs.
    let self = c.args.self.now in
    begun_other c.args.first self.chain self.table.items before c.args.cx.now.log.state.pending
    c.args.cx.now.roles c.args.role c.args.event handled c.in_default.ensures (was runs)

pub returns-in_default-clause-within : goal.returns-in_default-clause-within
returns-in_default-clause-within g c = acts_none 4 c.args.cx.now c.requires.turn

-- It is that of the stage at a place, which acted.
pub returns-in-Ok-clause-acts : goal.returns-in-Ok-clause-acts
returns-in-Ok-clause-acts g c = λ at is stage.
    let self = c.args.self.now in
    acts_in g.P.Transform.rest g.P.Transform.pause c.in-Some.at at c.args.event self.chain
    c.handle_at.new.chain c.deref_mut.result.now self.table.items c.handle_at.new.table self.table.len
    true self.running self.running
    c.args.cx.now c.handle_at.new.cx (omega (arith, is, c.in-Some.ensures.0)) c.deref_mut.ensures.value
    (self.table.ok.0 ∙ ap length (sym c.deref_mut.ensures.value)) (λ runs. refl) (λ ok. refl)
    c.in-Ok.ensures.acts

pub returns-in-Ok-clause-other : goal.returns-in-Ok-clause-other
returns-in-Ok-clause-other g c = λ none. absurd (none c.in-Some.at c.in-Some.ensures.0 c.in-Some.ensures.1)

pub returns-in-Ok-clause-gives : goal.returns-in-Ok-clause-gives
returns-in-Ok-clause-gives g c =
    let self = c.args.self.now in
    let acted = c.handle_at in
    taken_table (λ us. StillGives g.P.Transform.rest g.P.Transform.soon self.chain acted.new.chain
    self.table.items us
    c.args.cx.now acted.new.cx) self.table.len acted.new.table self.table.items
    (acted.ensures.acts.len ∙ ap length c.deref_mut.ensures.value ∙ sym self.table.ok.0)
    (still_gives g.P.Transform.rest g.P.Transform.soon c.in-Some.at self.chain acted.new.chain
    self.table.items acted.new.table
    c.args.cx.now acted.new.cx c.in-Some.ensures.1 acted.ensures.acts.own
    (acted.ensures.acts.len ∙ ap length c.deref_mut.ensures.value)
    (subst (λ ts. GivesOn g.P.Transform.rest g.P.Transform.soon self.chain acted.new.chain ts acted.new.table
    c.args.cx.now
    acted.new.cx) c.deref_mut.ensures.value acted.ensures.gives))

pub returns-in-Err-clause-acts : goal.returns-in-Err-clause-acts
returns-in-Err-clause-acts g c = λ at is stage.
    let self = c.args.self.now in
    acts_in g.P.Transform.rest g.P.Transform.pause c.in-Some.at at c.args.event self.chain
    c.handle_at.new.chain c.deref_mut.result.now self.table.items c.handle_at.new.table self.table.len
    false self.running false
    c.args.cx.now c.handle_at.new.cx (omega (arith, is, c.in-Some.ensures.0)) c.deref_mut.ensures.value
    (self.table.ok.0 ∙ ap length (sym c.deref_mut.ensures.value)) (λ runs. runs)
    (λ ok. absurd (let wrong : false ≡ true = ok in cc)) c.in-Err.ensures.acts

pub returns-in-Err-clause-other : goal.returns-in-Err-clause-other
returns-in-Err-clause-other g c = λ none. absurd (none c.in-Some.at c.in-Some.ensures.0 c.in-Some.ensures.1)

pub returns-in-Err-clause-gives : goal.returns-in-Err-clause-gives
returns-in-Err-clause-gives g c =
    let self = c.args.self.now in
    let acted = c.handle_at in
    taken_table (λ us. StillGives g.P.Transform.rest g.P.Transform.soon self.chain acted.new.chain
    self.table.items us
    c.args.cx.now acted.new.cx) self.table.len acted.new.table self.table.items
    (acted.ensures.acts.len ∙ ap length c.deref_mut.ensures.value ∙ sym self.table.ok.0)
    (still_gives g.P.Transform.rest g.P.Transform.soon c.in-Some.at self.chain acted.new.chain
    self.table.items acted.new.table
    c.args.cx.now acted.new.cx c.in-Some.ensures.1 acted.ensures.acts.own
    (acted.ensures.acts.len ∙ ap length c.deref_mut.ensures.value)
    (subst (λ ts. GivesOn g.P.Transform.rest g.P.Transform.soon self.chain acted.new.chain ts acted.new.table
    c.args.cx.now
    acted.new.cx) c.deref_mut.ensures.value acted.ensures.gives))

pub returns-in-Err-clause-loses : goal.returns-in-Err-clause-loses
returns-in-Err-clause-loses g c =
    let self = c.args.self.now in (
      refl,
      ap Some c.of_set.ensures,
      subst (λ ts. IsCause (AreAllLive self.chain ts c.args.cx.now) c.in-Err.fault c.handle_at.new.cx)
          c.deref_mut.ensures.value c.in-Err.ensures.live.cause,
    )

-- Whoever was not called is left alone.
pub returns-in_default-clause-rest : goal.returns-in_default-clause-rest
returns-in_default-clause-rest g c = record {
  others = λ role t named outside s. s;
  live = inl refl;
  seated =
      λ others seated. seated;
}

pub returns-in-Ok-clause-rest : goal.returns-in-Ok-clause-rest
returns-in-Ok-clause-rest g c =
    let self = c.args.self.now in
    let acted = c.handle_at in
    let cx = c.args.cx.now in
    record {
      seated = taken_table (λ us. KeepsSeated self.table.items us cx acted.new.cx) self.table.len
          acted.new.table self.table.items (acted.ensures.acts.len ∙ ap length c.deref_mut.ensures.value ∙ sym
          self.table.ok.0)
          (subst (λ ts. KeepsSeated ts acted.new.table cx acted.new.cx) c.deref_mut.ensures.value
          acted.ensures.live.seated);
      others = subst (λ ts. KeepsOthers c.args.first ts cx acted.new.cx) c.deref_mut.ensures.value
          (acted.ensures.others c.args.first);
      live = taken_table (λ us. KeepsLive self.chain acted.new.chain self.table.items us cx acted.new.cx)
          self.table.len acted.new.table self.table.items
          (acted.ensures.acts.len ∙ ap length c.deref_mut.ensures.value ∙ sym self.table.ok.0)
          (subst (λ ts. KeepsLive self.chain acted.new.chain ts acted.new.table cx acted.new.cx)
          c.deref_mut.ensures.value acted.ensures.live.live);
    }

pub returns-in-Err-clause-rest : goal.returns-in-Err-clause-rest
returns-in-Err-clause-rest g c =
    let self = c.args.self.now in
    let acted = c.handle_at in
    let cx = c.args.cx.now in
    record {
      seated = taken_table (λ us. KeepsSeated self.table.items us cx acted.new.cx) self.table.len
          acted.new.table self.table.items (acted.ensures.acts.len ∙ ap length c.deref_mut.ensures.value ∙ sym
          self.table.ok.0)
          (subst (λ ts. KeepsSeated ts acted.new.table cx acted.new.cx) c.deref_mut.ensures.value
          acted.ensures.live.seated);
      others = subst (λ ts. KeepsOthers c.args.first ts cx acted.new.cx) c.deref_mut.ensures.value
          (acted.ensures.others c.args.first);
      live = taken_table (λ us. KeepsLive self.chain acted.new.chain self.table.items us cx acted.new.cx)
          self.table.len acted.new.table self.table.items
          (acted.ensures.acts.len ∙ ap length c.deref_mut.ensures.value ∙ sym self.table.ok.0)
          (subst (λ ts. KeepsLive self.chain acted.new.chain ts acted.new.table cx acted.new.cx)
          c.deref_mut.ensures.value acted.ensures.live.live);
    }
