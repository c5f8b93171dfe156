-- The blocks that the transactions of a recording come to, and the report that is made of them.
use Rattle.std.specs.Prelude.{◌≡◌, ℕ, List, [], take, true, Option, None, Some}
use Rattle.std.specs.List.{AllZip}
use Rattle.ts_config.specs.Setup.{ConfigLines, lines_of}
use Rattle.ts_config.specs.declared.setup.Setup.{Setup}
use Rattle.ts_hooks.specs.declared.txn_end.TxnEnd.TheVariants as E
use Rattle.ts_link.specs.Inputs.{bytes_of}
use Rattle.ts_record.specs.Grammar.{Contents, IsRecording, TxnPieces}
use Rattle.ts_record.specs.Report.{report_text}
use Rattle.ts_record.specs.declared.report.ReportBlock.{ReportBlock}
use Rattle.ts_block.specs.Block.{IsBlock}
use Rattle.ts_block.specs.declared.block.Block.{Block}
use Rattle.ts_replay.specs.AtOrigin.{StandsAt, answer_to}
use Rattle.ts_replay.specs.Heads.{SendsHeads}
use Rattle.ts_replay.specs.Taps.{tap_by}
use Rattle.ts_replay.specs.declared.at_origin.AtOrigin.{AtOrigin}
use Rattle.ts_request.specs.Sent.{RefusesUpload}
use Rattle.ts_request.specs.Upload.{Strips}

-- What is known of the two sides of a transaction: all bytes that each sends, and how many the client takes,
-- where it leaves.
pub record BothSides : Type 0 where
  pub client : List ℕ
  pub origin : List ℕ
  pub leave : Option ℕ

-- of a recorded one: where its sides stall makes no difference
abbrev pub sides_of : TxnPieces → BothSides
sides_of txn =
    record { client = bytes_of txn.client; origin = bytes_of txn.origin; leave = txn.leave }

-- ---- one transaction

-- a block, what stands at the origin, and what a tap counted, as a report shows them
abbrev pub in_report : Option ℕ → AtOrigin → Block → ReportBlock
in_report most at b = record {
  request = at.request;
  upload = at.upload;
  end = b.end;
  head = b.head;
  content = b.body;
  tap = tap_by b.end most b.body;
}

-- what a report shows where the client left after so many bytes: what stands at the origin, and what the
-- client got of the head; there are no lines for a body, and so none of a tap
abbrev pub left_report : ℕ → AtOrigin → List ℕ → ReportBlock
left_report most at head = record {
  request = at.request;
  upload = at.upload;
  end = E.ClientFault;
  head = take most head;
  content = [];
  tap = None;
}

-- What is shown of a transaction whose client stays: what stands at the origin, and the block of all that is
-- shown of the client and all of what answers there, each followed by its end.
pub record IsShownWhole (setup : Setup) (client origin : List ℕ) (b : ReportBlock) : Type 0 where
  pub shown : List ℕ
  pub strips : Strips client shown
  pub block : Block
  pub at : AtOrigin
  pub stands : StandsAt setup.requests.items client block.request at
  pub is_block : IsBlock setup true (RefusesUpload setup.requests.items client)
      (answer_to setup.intercepts.items at.request origin) shown block
  pub shows : b ≡ in_report setup.tap at block

-- What is shown of one whose client leaves after so many bytes, whatever its end: what stands at the origin,
-- and the first so many bytes of that block's head.
pub record IsShownLeft (setup : Setup) (client origin : List ℕ) (most : ℕ) (b : ReportBlock) : Type 0 where
  pub shown : List ℕ
  pub strips : Strips client shown
  pub request : List ℕ
  pub head : List ℕ
  pub at : AtOrigin
  pub stands : StandsAt setup.requests.items client request at
  pub sends : SendsHeads setup (RefusesUpload setup.requests.items client) shown
      (answer_to setup.intercepts.items at.request origin) request head
  pub shows : b ≡ left_report most at head

abbrev pub IsShownBy : Option ℕ → Setup → List ℕ → List ℕ → ReportBlock → Type 0
IsShownBy None setup client origin b = IsShownWhole setup client origin b
IsShownBy (Some most) setup client origin b = IsShownLeft setup client origin most b

-- what is shown of a transaction between two sides
abbrev pub IsShownOf : Setup → BothSides → ReportBlock → Type 0
IsShownOf setup sides b = IsShownBy sides.leave setup sides.client sides.origin b

-- and of a recorded transaction
abbrev pub IsTxnShown : Setup → TxnPieces → ReportBlock → Type 0
IsTxnShown setup txn b = IsShownOf setup (sides_of txn) b

-- ---- all of them

-- what is shown of transactions under a setup, in their order
abbrev pub AreShown : Setup → List TxnPieces → List ReportBlock → Type 0
AreShown setup txns blocks = AllZip (IsTxnShown setup) txns blocks

-- THE BLOCKS of transactions under these lines
pub record AreBlocksOn (lines : ConfigLines) (txns : List TxnPieces) (blocks : List ReportBlock)
    : Type 0 where
  pub setup : Setup
  pub lines_are : lines_of setup ≡ lines
  pub each : AreShown setup txns blocks

-- the text is the report on the recording in these bytes under these lines
pub record IsReportOn (lines : ConfigLines) (bytes text : List ℕ) : Type 0 where
  pub contents : Contents
  pub recording : IsRecording bytes contents
  pub blocks : List ReportBlock
  pub are : AreBlocksOn lines contents.txns blocks
  pub text_is : text ≡ report_text contents.version blocks

-- transactions under lines have at most one list of blocks
abbrev pub HaveOneList : Type 0
HaveOneList =
    (lines : ConfigLines) (txns : List TxnPieces) (a b : List ReportBlock) → AreBlocksOn lines txns a
    → AreBlocksOn lines txns b → a ≡ b

-- lines and the bytes of a recording have at most one report
abbrev pub HasOneReport : Type 0
HasOneReport =
    (lines : ConfigLines) (bytes a b : List ℕ) → IsReportOn lines bytes a → IsReportOn lines bytes b
    → a ≡ b

-- the bytes are a recording
abbrev pub HasRecording : List ℕ → Type 0
HasRecording bytes = (contents : Contents) × IsRecording bytes contents
