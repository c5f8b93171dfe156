-- Fronts of a text that a sink took, one behind the other.
use Rattle.std.proofs.Common.{◌≡◌, ℕ, ◌+◌, List, [], ◌∷◌, ◌++◌, ap, append_assoc, arith, drop, length, refl}
use Rattle.std.proofs.Common.{subst, sym, ◌∙◌}
use Rattle.std.proofs.lemmas.List.{append-nil}
use Rattle.ts_link.specs.Seen.{SinkSeen}
use Rattle.ts_proxy.specs.Sending.{WroteAll}
use Rattle.ts_proxy.specs.Took.{TookBut, TookFront}
use Rattle.ts_proxy.specs.declared.writing.SendEnd.{SendEnd}
use Rattle.ts_proxy.specs.declared.writing.SendEnd.TheVariants.{Done, Failed, NoMemory}
use Rattle.ts_record.specs.Report.{block_text, blocks_text, report_end}
use Rattle.ts_record.specs.declared.report.ReportBlock.{ReportBlock}

-- all but what is left is a front
front-but : (old new : SinkSeen) (text left : List ℕ) → TookBut old new text left → TookFront old new text
front-but old new text left but = record {
  took = but.took;
  left = left;
  grew = but.grew;
  front = but.front;
}

-- of the part at the front of what is left, all but something was taken
pub took-more : (old mid new : SinkSeen) (text part waiting behind : List ℕ)
    → TookBut old mid text (part ++ behind) → TookBut mid new part waiting
    → TookBut old new text (waiting ++ behind)
took-more old mid new text part waiting behind before more = record {
  took = before.took ++ more.took;
  grew = more.grew ∙ ap (λ l. l ++ more.took) before.grew ∙ append_assoc old.taken before.took more.took;
  front =
      append_assoc before.took more.took (waiting ++ behind)
      ∙ ap (λ l. before.took ++ l) (sym (append_assoc more.took waiting behind) ∙ ap (λ l. l ++ behind)
      more.front)
      ∙ before.front;
}

-- or a front of that part
pub took-broken : (old mid new : SinkSeen) (text part behind : List ℕ)
    → TookBut old mid text (part ++ behind) → TookFront mid new part → TookFront old new text
took-broken old mid new text part behind before broken =
    front-but old new text (broken.left ++ behind)
    (took-more old mid new text part broken.left behind before (record {
      took = broken.took;
      grew = broken.grew;
      front = broken.front;
    }))

-- all that was left was written, or a front of it
pub took-rest : (end : SendEnd) (old mid new : SinkSeen) (text left : List ℕ) → TookBut old mid text left
    → WroteAll end mid new left → WroteAll end old new text
took-rest Done old mid new text left before all =
    all ∙ ap (λ l. l ++ left) before.grew ∙ append_assoc old.taken before.took left
    ∙ ap (λ l. old.taken ++ l) before.front
took-rest Failed old mid new text left before front =
    took-broken old mid new text left [] (subst (TookBut old mid text) (sym (append-nil left)) before) front
took-rest NoMemory old mid new text left before front =
    took-broken old mid new text left [] (subst (TookBut old mid text) (sym (append-nil left)) before) front

-- the lines that are gathered, those on the blocks that are left, the first of which has this number, and the
-- last line of a report
abbrev pub still_out : List ℕ → ℕ → List ReportBlock → List ℕ
still_out lines number blocks = lines ++ (blocks_text number blocks ++ report_end)

-- the first of these blocks is gathered
gathers : (lines : List ℕ) (number : ℕ) (b : ReportBlock) (bs : List ReportBlock)
    → still_out lines number (b ∷ bs) ≡ still_out (lines ++ block_text number b) (number + 1) bs
gathers lines number b bs =
    let text = block_text number b in
    let behind = blocks_text (number + 1) bs in
    ap (λ l. lines ++ l) (append_assoc text behind report_end)
    ∙ sym (append_assoc lines text (behind ++ report_end))

pub gathered : (old new : SinkSeen) (text lines : List ℕ) (number : ℕ) (b : ReportBlock)
    (bs blocks : List ReportBlock) → blocks ≡ b ∷ bs → TookBut old new text (still_out lines number blocks)
    → TookBut old new text (still_out (lines ++ block_text number b) (number + 1) bs)
gathered old new text lines number b bs blocks is before =
    subst (TookBut old new text) (ap (still_out lines number) is ∙ gathers lines number b bs) before

-- a list without its first element is the same only where it has none
none-left : {A : Type 0} (xs : List A) → xs ≡ drop 1 xs → xs ≡ []
none-left [] same = refl
none-left (x ∷ xs) same = absurd (let longer = ap length same in omega (arith, longer))

-- no block is left, and the last line is gathered
pub closed : (old new : SinkSeen) (text lines lines' : List ℕ) (number : ℕ) (blocks : List ReportBlock)
    → blocks ≡ drop 1 blocks → lines' ≡ lines ++ report_end → TookBut old new text (still_out lines number blocks)
    → TookBut old new text lines'
closed old new text lines lines' number blocks none is before =
    subst (TookBut old new text) (ap (still_out lines number) (none-left blocks none) ∙ sym is) before
