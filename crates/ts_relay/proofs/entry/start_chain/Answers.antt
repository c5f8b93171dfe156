-- The stages are made and each is roused that must work, or the chain tells why not.
use Rattle.std.proofs.Common.{◌≡◌, length, Some, sym, ap, ◌∙◌}
use Rattle.ts_transform.specs.declared.loss.Loss.{Loss}
use Rattle.ts_transform.specs.declared.loss.Loss.TheVariants as L
use Rattle.ts_relay.proofs.Chaining.{goes_unspent, lost_unspent}
use Rattle.ts_relay.proofs.BodyTimes.{starts_in_time}
use Rattle.ts_relay.proofs.Entered.{starts_lacks, starts_running, starts_spent}
use Rattle.ts_relay.proofs.entry.start_chain.Goals as goal

pub returns-in-None-clause-begins : goal.returns-in-None-clause-begins
returns-in-None-clause-begins g c = starts_running (length c.args.driven.now.chain.stages) c.start.new.self
    c.args.cx.now c.start.new.cx c.start.ensures.within c.start.ensures.rest c.start.ensures.driven
    c.start.ensures.begun (sym c.lost.ensures ∙ c.in-None.is)

pub returns-in-Some-Spent-clause-begins : goal.returns-in-Some-Spent-clause-begins
returns-in-Some-Spent-clause-begins g c = starts_spent (length c.args.driven.now.chain.stages)
    c.start.new.self
    c.args.cx.now c.start.new.cx c.start.ensures.within c.start.ensures.rest c.start.ensures.driven
    c.start.ensures.begun (sym c.lost.ensures ∙ c.in-Some-Spent.is ∙ ap (λ (l : Loss). Some l)
    c.in-Some-Spent.field-0-is)

pub returns-in-Some-NoMemory-clause-begins : goal.returns-in-Some-NoMemory-clause-begins
returns-in-Some-NoMemory-clause-begins g c = starts_lacks (length c.args.driven.now.chain.stages)
    c.start.new.self
    c.args.cx.now c.start.new.cx c.start.ensures.within c.start.ensures.rest c.start.ensures.driven
    c.start.ensures.begun

pub returns-in-Some-TableFull-clause-begins : goal.returns-in-Some-TableFull-clause-begins
returns-in-Some-TableFull-clause-begins g c = starts_lacks (length c.args.driven.now.chain.stages)
    c.start.new.self
    c.args.cx.now c.start.new.cx c.start.ensures.within c.start.ensures.rest c.start.ensures.driven
    c.start.ensures.begun

pub returns-in-Some-Dead-clause-begins : goal.returns-in-Some-Dead-clause-begins
returns-in-Some-Dead-clause-begins g c = starts_lacks (length c.args.driven.now.chain.stages) c.start.new.self
    c.args.cx.now c.start.new.cx c.start.ensures.within c.start.ensures.rest c.start.ensures.driven
    c.start.ensures.begun

pub returns-in-None-clause-due : goal.returns-in-None-clause-due
returns-in-None-clause-due g c = starts_in_time g.P.Transform.pause c.args.driven.now.chain
    c.args.cx.now.moment c.args.cx.now c.start.new.cx c.start.ensures.only

pub returns-in-Some-Spent-clause-due : goal.returns-in-Some-Spent-clause-due
returns-in-Some-Spent-clause-due g c = starts_in_time g.P.Transform.pause c.args.driven.now.chain
    c.args.cx.now.moment c.args.cx.now c.start.new.cx c.start.ensures.only

pub returns-in-Some-NoMemory-clause-due : goal.returns-in-Some-NoMemory-clause-due
returns-in-Some-NoMemory-clause-due g c = starts_in_time g.P.Transform.pause c.args.driven.now.chain
    c.args.cx.now.moment c.args.cx.now c.start.new.cx c.start.ensures.only

pub returns-in-Some-TableFull-clause-due : goal.returns-in-Some-TableFull-clause-due
returns-in-Some-TableFull-clause-due g c = starts_in_time g.P.Transform.pause c.args.driven.now.chain
    c.args.cx.now.moment c.args.cx.now c.start.new.cx c.start.ensures.only

pub returns-in-Some-Dead-clause-due : goal.returns-in-Some-Dead-clause-due
returns-in-Some-Dead-clause-due g c = starts_in_time g.P.Transform.pause c.args.driven.now.chain
    c.args.cx.now.moment c.args.cx.now c.start.new.cx c.start.ensures.only

pub returns-in-None-clause-spent : goal.returns-in-None-clause-spent
returns-in-None-clause-spent g c = goes_unspent c.start.new.self

pub returns-in-Some-Spent-clause-spent : goal.returns-in-Some-Spent-clause-spent
returns-in-Some-Spent-clause-spent g c = goes_unspent c.start.new.self

pub returns-in-Some-NoMemory-clause-spent : goal.returns-in-Some-NoMemory-clause-spent
returns-in-Some-NoMemory-clause-spent g c =
    lost_unspent L.NoMemory c.start.new.self (sym c.lost.ensures ∙ c.in-Some-NoMemory.is ∙ ap (λ (l : Loss).
    Some l) c.in-Some-NoMemory.field-0-is) (λ e. (let wrong : L.NoMemory ≡ L.Spent = e in cc))

pub returns-in-Some-TableFull-clause-spent : goal.returns-in-Some-TableFull-clause-spent
returns-in-Some-TableFull-clause-spent g c =
    lost_unspent L.TableFull c.start.new.self (sym c.lost.ensures ∙ c.in-Some-TableFull.is ∙ ap (λ (l : Loss).
    Some l) c.in-Some-TableFull.field-0-is) (λ e. (let wrong : L.TableFull ≡ L.Spent = e in cc))

pub returns-in-Some-Dead-clause-spent : goal.returns-in-Some-Dead-clause-spent
returns-in-Some-Dead-clause-spent g c =
    lost_unspent L.Dead c.start.new.self (sym c.lost.ensures ∙ c.in-Some-Dead.is ∙ ap (λ (l : Loss). Some l)
    c.in-Some-Dead.field-0-is) (λ e. (let wrong : L.Dead ≡ L.Spent = e in cc))
