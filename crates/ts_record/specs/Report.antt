-- The report on a recording, block by block.
use Rattle.std.specs.Prelude.{ℕ, ◌+◌, List, [], ◌∷◌, ◌++◌, codes, length, Option, Some, None, ⊤}
use Rattle.std.specs.Fmt.{decimal}
use Rattle.std.specs.List.{AllByRecursion}
use Rattle.ts_hooks.specs.declared.txn_end.TxnEnd.{TxnEnd}
use Rattle.ts_hooks.specs.declared.txn_end.TxnEnd.TheVariants as e
use Rattle.ts_link.specs.Texts.{line_feed}
use Rattle.ts_record.specs.declared.report.ReportBlock.{ReportBlock}
use Rattle.ts_record.specs.declared.report.TapLine.{TapLine}

-- the word of an end in a report: that of a client's fault says that the recording has its client leave; the
-- other ends have none, since a recorded origin does not fail
abbrev pub end_word : TxnEnd → List ℕ
end_word e.Whole = codes "whole"
end_word e.OriginCut = codes "cut"
end_word e.OriginBad = codes "bad"
end_word e.ClientFault = codes "left"
end_word other = []

-- an end that a report names
abbrev pub IsReported : TxnEnd → Type 0
IsReported e.Whole = ⊤
IsReported e.OriginCut = ⊤
IsReported e.OriginBad = ⊤
IsReported e.ClientFault = ⊤
IsReported other = ⊥

-- the ends of all these blocks are
abbrev pub AreReported : List ReportBlock → Type 0
AreReported blocks = AllByRecursion (λ b. IsReported b.end) blocks

-- a line with a name and a length, so many bytes, and a line feed
abbrev pub sized_text : List ℕ → List ℕ → List ℕ
sized_text name bytes = name ++ decimal (length bytes) ++ line_feed ∷ [] ++ bytes ++ line_feed ∷ []

-- the body of an answer, which only a whole one has
abbrev pub body_text : TxnEnd → List ℕ → List ℕ
body_text e.Whole content = sized_text (codes "body ") content
body_text other content = []

-- the lines on its number, and on the head that the origin got
abbrev pub request_lines : ℕ → List ℕ → List ℕ
request_lines number request =
    codes "txn " ++ decimal number ++ line_feed ∷ [] ++ sized_text (codes "request ") request

-- the lines on its end, and on the head that the client got
abbrev pub head_lines : TxnEnd → List ℕ → List ℕ
head_lines end head = codes "end " ++ end_word end ++ line_feed ∷ [] ++ sized_text (codes "head ") head

-- the lines on the body that the origin got, if there are any
abbrev pub upload_text : Option (List ℕ) → List ℕ
upload_text None = []
upload_text (Some bytes) = sized_text (codes "upload ") bytes

-- the line of a tap, if there is one: how many bytes it counted, and their sum
abbrev pub tap_text : Option TapLine → List ℕ
tap_text None = []
tap_text (Some line) =
    codes "tap " ++ decimal line.count ++ codes " " ++ decimal line.sum ++ line_feed ∷ []

-- the lines on the transaction of this number
abbrev pub block_text : ℕ → ReportBlock → List ℕ
block_text number block =
    request_lines number block.request ++ upload_text block.upload ++ head_lines block.end block.head
    ++ body_text block.end block.content ++ tap_text block.tap

-- the first line of a report, with the version of its recording
abbrev pub report_begin : ℕ → List ℕ
report_begin version = codes "tsx-report " ++ decimal version ++ line_feed ∷ []

-- the last line
abbrev pub report_end : List ℕ
report_end = codes "done\n"

-- the lines on transactions, of which the first has this number
abbrev pub blocks_text : ℕ → List ReportBlock → List ℕ
blocks_text number [] = []
blocks_text number (b ∷ bs) = block_text number b ++ blocks_text (number + 1) bs

-- the report on the transactions of a recording of this version that came to these blocks, in their order
abbrev pub report_text : ℕ → List ReportBlock → List ℕ
report_text version blocks = report_begin version ++ blocks_text 1 blocks ++ report_end
