use Rattle.std.proofs.Common.{[], ◌∷◌, ap, codes, decimal, ◌∙◌}
use Rattle.std.specs.List.{concat}
use Rattle.ts_proxy.proofs.Parts.{told-same}
use Rattle.ts_proxy.proofs.telling.say.Goals as goal

pub returns-in-CannotWrite : goal.returns-in-CannotWrite
returns-in-CannotWrite g c = λ tells. rw c.in-CannotWrite.is (c.tell-in-CannotWrite.ensures tells)

pub returns-in-OutOfMemory : goal.returns-in-OutOfMemory
returns-in-OutOfMemory g c = λ tells. rw c.in-OutOfMemory.is (c.tell-in-OutOfMemory.ensures tells)

pub returns-in-CannotRead : goal.returns-in-CannotRead
returns-in-CannotRead g c = λ tells.
    rw c.in-CannotRead.is
    (told-same (g.E.Sink.seen c.args.err.now) (g.E.Sink.seen c.tell-in-CannotRead.new.err) _ _
    (ap (λ n. concat (codes "tsx: cannot read " ∷ n ∷ codes "\n" ∷ [])) c.name.ensures)
    (c.tell-in-CannotRead.ensures tells))

pub returns-in-TooLong : goal.returns-in-TooLong
returns-in-TooLong g c = λ tells.
    rw c.in-TooLong.is
    (told-same (g.E.Sink.seen c.args.err.now) (g.E.Sink.seen c.tell-in-TooLong.new.err) _ _
    (ap (λ n. concat (codes "tsx: too long: " ∷ n ∷ codes "\n" ∷ [])) c.name-in-TooLong.ensures)
    (c.tell-in-TooLong.ensures tells))

pub returns-in-BadLine : goal.returns-in-BadLine
returns-in-BadLine g c = λ tells.
    rw c.in-BadLine.is
    (told-same (g.E.Sink.seen c.args.err.now) (g.E.Sink.seen c.tell-in-BadLine.new.err) _ _
    (ap (λ n. concat (codes "tsx: configuration line " ∷ n ∷ codes ": " ∷ c.text_of.result.now ∷ codes "\n" ∷
    [])) (c.as_bytes-number.ensures.value ∙ c.format.ensures.text)
    ∙ ap (λ k. concat (codes "tsx: configuration line " ∷ decimal c.in-BadLine.fault.line ∷ codes ": " ∷ k ∷
    codes "\n" ∷ [])) c.text_of.ensures)
    (c.tell-in-BadLine.ensures tells))

pub returns-in-BadRecording : goal.returns-in-BadRecording
returns-in-BadRecording g c = λ tells.
    rw c.in-BadRecording.is
    (told-same (g.E.Sink.seen c.args.err.now) (g.E.Sink.seen c.tell-in-BadRecording.new.err) _ _
    (ap (λ n. concat (codes "tsx: recording offset " ∷ n ∷ codes "\n" ∷ []))
    (c.as_bytes-number-in-BadRecording.ensures.value ∙ c.format-in-BadRecording.ensures.text))
    (c.tell-in-BadRecording.ensures tells))
