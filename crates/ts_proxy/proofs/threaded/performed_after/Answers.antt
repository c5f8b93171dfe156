-- How far the text got decides what is left.
use Rattle.std.proofs.Common.{subst}
use Rattle.ts_proxy.specs.Performed.{AreOfThreads}
use Rattle.ts_proxy.specs.Sending.{IsSent}
use Rattle.ts_proxy.specs.declared.writing.SendEnd.TheVariants.{Done, Failed, NoMemory}
use Rattle.ts_proxy.proofs.Performing.{work-stopped, work-unwritten, work-written}
use Rattle.ts_proxy.proofs.threaded.performed_after.Goals as goal

pub returns-in-Done : goal.returns-in-Done
returns-in-Done c = λ o text tells old new run sent.
    let all : IsSent Done tells old new text = subst (λ e. IsSent e tells old new text) c.in-Done.is sent in
    work-written AreOfThreads o text tells old new c.args.journals.items run.output run.text_is run.ours run.each
    all.told all.faults

pub returns-in-Failed : goal.returns-in-Failed
returns-in-Failed c = λ o text tells old new run sent.
    let front : IsSent Failed tells old new text = subst (λ e. IsSent e tells old new text) c.in-Failed.is sent in
    rw c.without.ensures.answer
    (work-unwritten AreOfThreads o text tells old new _ run.output run.text_is front.told front.faults
    c.without.ensures.none)

pub returns-in-NoMemory : goal.returns-in-NoMemory
returns-in-NoMemory c = λ o text tells old new run sent.
    let front : IsSent NoMemory tells old new text = subst (λ e. IsSent e tells old new text) c.in-NoMemory.is sent
    in
    rw c.without-in-NoMemory.ensures.answer
    (work-stopped AreOfThreads o text tells old new _ run.text_is front.told front.faults
    c.without-in-NoMemory.ensures.none)
