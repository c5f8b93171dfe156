-- What `generate` runs and writes: a recording that three numbers stand for, under one configuration, and the
-- summary of what its transactions came to.
use Rattle.std.specs.Prelude.{◌≡◌, ℕ, ◌+◌, List, [], ◌∷◌, ◌++◌, length, codes}
use Rattle.std.specs.Fmt.{decimal}
use Rattle.ts_config.specs.Bytes.{letter_a}
use Rattle.ts_config.specs.Setup.{ConfigLines, transforms_alone}
use Rattle.ts_config.specs.declared.setup.TransformLine.TheVariants as t
use Rattle.ts_hooks.specs.declared.txn_end.TxnEnd.{TxnEnd}
use Rattle.ts_hooks.specs.declared.txn_end.TxnEnd.TheVariants as e
use Rattle.ts_link.specs.Texts.{line_feed}
use Rattle.ts_proxy.specs.declared.command.GenerateTask.{GenerateTask}
use Rattle.ts_proxy.specs.declared.summary.Summary.{Summary}
use Rattle.ts_record.specs.Generator.{generated}
use Rattle.ts_record.specs.Grammar.{TxnPieces}
use Rattle.ts_record.specs.Sum.{sum_of}
use Rattle.ts_record.specs.declared.report.ReportBlock.{ReportBlock}
use Rattle.ts_replay.specs.Reports.{AreBlocksOn}

-- ---- what is run

-- the configuration of `generate`
abbrev pub fixed_config : List ℕ
fixed_config = codes "null_transform.so\nmap.so a A\ndrop.so q\nbnull_transform.so\nprepend.so <\n"

abbrev pub capital_a : ℕ
capital_a = 65

abbrev pub letter_q : ℕ
letter_q = 113

-- its lines
abbrev pub fixed_lines : ConfigLines
fixed_lines = transforms_alone
    (t.Null ∷ t.Map letter_a capital_a ∷ t.Drop letter_q ∷ t.Bnull ∷ t.Prepend (codes "<") ∷ [])

-- the transactions that the numbers stand for
abbrev pub txns_of : GenerateTask → List TxnPieces
txns_of n = generated n.count n.size n.seed

-- ---- what is said of it

-- a transaction that ended whole counts as one, and any other as none
abbrev pub whole_once : TxnEnd → ℕ
whole_once e.Whole = 1
whole_once other = 0

-- how many transactions ended whole
abbrev pub whole_count : List ReportBlock → ℕ
whole_count [] = 0
whole_count (b ∷ bs) = whole_once b.end + whole_count bs

-- all bytes of the bodies, without framing
abbrev pub bodies : List ReportBlock → List ℕ
bodies [] = []
bodies (b ∷ bs) = b.content ++ bodies bs

-- the summary of transactions that came to these blocks
abbrev pub summary_of : List ReportBlock → Summary
summary_of blocks = record {
  transactions = length blocks;
  whole = whole_count blocks;
  body = length (bodies blocks);
  sum = sum_of 0 (bodies blocks);
}

-- a line of a word and a number
abbrev pub number_line : List ℕ → ℕ → List ℕ
number_line word number = word ++ decimal number ++ line_feed ∷ []

-- as text
abbrev pub summary_text : Summary → List ℕ
summary_text s =
    ((number_line (codes "transactions ") s.transactions ++ number_line (codes "whole ") s.whole)
    ++ number_line (codes "body ") s.body) ++ number_line (codes "sum ") s.sum

-- THE SUMMARY that three numbers stand for
pub record IsSummaryOf (n : GenerateTask) (text : List ℕ) : Type 0 where
  pub blocks : List ReportBlock
  pub are : AreBlocksOn fixed_lines (txns_of n) blocks
  pub text_is : text ≡ summary_text (summary_of blocks)

-- it is one text
abbrev pub HaveOneSummary : Type 0
HaveOneSummary = (n : GenerateTask) (a b : List ℕ) → IsSummaryOf n a → IsSummaryOf n b → a ≡ b
