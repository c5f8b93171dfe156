use Rattle.ts_proxy.specs.declared.answer.Answer.TheVariants as a
use Rattle.tsx.proofs.command_line.run_words.Goals as goal

-- without words the answer is that memory lacked
pub returns-in-Err-clause-line : goal.returns-in-Err-clause-line
returns-in-Err-clause-line g c =
    rw c.in-Err.is (
      a.OutOfMemory,
      record { comes = λ tells. tt; named = λ tells. tt; has = tt },
      c.end_without_words.ensures.told,
    )
