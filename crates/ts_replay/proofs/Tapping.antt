-- What a tap summed up of an answer that a client took whole is the body.
use Rattle.std.proofs.Common.{◌≡◌, ◌≢◌, ◌∙◌, ℕ, ◌≤◌, List, [], ◌∷◌, ◌++◌, length, length-append, All}
use Rattle.std.proofs.Common.{Option, Some, None, take, true, inl, inr, refl, sym, ap, subst, arith}
use Rattle.std.specs.Prelude.{IfSome}
use Rattle.std.specs.Option.{option_map}
use Rattle.std.proofs.lemmas.List.Elements.{All-head}
use Rattle.std.proofs.lemmas.Option.{same_Some}
use Rattle.ts_block.specs.declared.block.Block.{Block}
use Rattle.ts_hooks.specs.declared.txn_end.TxnEnd.{TxnEnd}
use Rattle.ts_hooks.specs.declared.txn_end.TxnEnd.TheVariants as E
use Rattle.ts_layers.specs.Layers.{IsTapped}
use Rattle.ts_link.specs.MemLink.{LinkState}
use Rattle.ts_record.specs.Sum.{sum_of}
use Rattle.ts_record.specs.declared.report.TapLine.{TapLine}
use Rattle.ts_replay.specs.Exchanged.{HasGot, TapsBody}
use Rattle.ts_replay.specs.Taps.{tap_by, tap_of}
use Rattle.ts_replay.proofs.Blocks.{HeadSays}
use Rattle.ts_replay.proofs.SentHead.{lacks_none}
use Rattle.ts_tap.specs.SentBody.{IsSentBody, IsSentHead}
use Rattle.ts_tap.specs.SentBody as sent
use Rattle.ts_tap.specs.Sums.{HasSummed, SumsBody}
use Rattle.ts_tap.specs.declared.sum.Sum.{Sum}
use Rattle.ts_tap.proofs.SentBodies.{one_sent_body, sent_body_whole}
use Rattle.ts_txn.specs.declared.making.TxnParts.{TxnParts}
use Rattle.ts_upstream.specs.InMemory.{memory_link}
use Rattle.ts_wire.specs.Frames.{IsPiece, cut_body, frames}
use Rattle.ts_wire.specs.Limits.{body_limit}
use Rattle.ts_wire.specs.declared.frames.Mode.{Mode}
use Rattle.ts_wire.specs.declared.frames.Mode.TheVariants as M

-- an empty body is cut into no pieces
no_pieces : (pieces : List (List ℕ)) → All IsPiece pieces → cut_body pieces ≡ [] → pieces ≡ []
no_pieces [] each none = refl
no_pieces (p ∷ ps) each none =
    let some = (All-head IsPiece p ps each).0 in
    let all = ap length none in
    let long = length-append p (cut_body ps) in
    absurd (omega (arith, some, all, long))

-- so nothing is sent of one behind no head
none_framed : (mode : Mode) (pieces : List (List ℕ)) → mode ≡ M.Plain → All IsPiece pieces
    → cut_body pieces ≡ [] → frames mode pieces true ≡ []
none_framed mode pieces plain each none =
    ap (λ m. frames m pieces true) plain ∙ ap (λ ps. frames M.Plain ps true) (no_pieces pieces each none)

module _ (parts : TxnParts LinkState LinkState) (b : Block) (mode : parts.mode ≡ b.mode) (said : HeadSays b)
    (few : length b.body ≤ body_limit) (got : HasGot parts b b.body true) where
  -- the body data of what the client took is the body
  body_by : HeadSays b → (body : List ℕ) → IsSentBody parts.client.taken body → body ≡ b.body
  body_by (inl silent) body is =
      let none : b.body ≡ [] = ap (λ (x : Block). x.body) silent in
      let plain : parts.mode ≡ M.Plain = mode ∙ ap (λ (x : Block). x.mode) silent in
      let empty = none_framed parts.mode got.pieces plain got.each (got.body ∙ none) in
      let taken : parts.client.taken ≡ [] =
      got.text ∙ ap (λ (x : Block). x.head ++ frames parts.mode got.pieces true) silent ∙ empty in
      one_sent_body [] body [] (subst (λ t. IsSentBody t body) taken is) (sent.in_head lacks_none refl)
      ∙ sym none
  body_by (inr says) body is =
      let head : IsSentHead parts.mode b.head = subst (λ m. IsSentHead m b.head) (sym mode) says in
      let short : length (cut_body got.pieces) ≤ body_limit =
      subst (λ l. length l ≤ body_limit) (sym got.body) few in
      sent_body_whole parts.mode true b.head body got.pieces head got.each short
      (subst (λ t. IsSentBody t body) got.text is) ∙ got.body

  -- so a tap that counts so many bytes, if there is one, summed it up
  taps_by : (most : Option ℕ) (sum : Option Sum) → option_map (λ (s : Sum). s.most) sum ≡ most
      → IfSome sum (SumsBody parts.client.taken) → TapsBody most sum b.body
  taps_by None None is sums = refl
  taps_by None (Some s) is sums = absurd (let wrong : Some s.most ≡ None = is in cc)
  taps_by (Some most) None is sums = absurd (let wrong : None ≡ Some most = is in cc)
  taps_by (Some most) (Some s) is sums = (
    s,
    refl,
    same_Some s.most most is,
    subst (HasSummed s) (body_by said sums.body sums.is_body) sums.sums,
  )

  pub taps_body : (most : Option ℕ) (sum : Option Sum) → IsTapped memory_link most parts.client sum
      → TapsBody most sum b.body
  taps_body most sum tapped = taps_by most sum tapped.most_is (tapped.sums refl)

-- ---- what is shown of a tap

-- no line without a sum
pub no_line : (most : Option ℕ) (body : List ℕ) → TapsBody most None body → None ≡ tap_of most body
no_line None body none = refl
no_line (Some m) body (s, is, most_is, sums) = absurd (let wrong : None ≡ Some s = is in cc)

-- and what a sum tells
pub line_of : (most : Option ℕ) (body : List ℕ) (s : Sum) (count sum : ℕ) → count ≡ s.count → sum ≡ s.sum
    → TapsBody most (Some s) body
    → ◌≡◌ {A = Option TapLine} (Some (record { count = count; sum = sum })) (tap_of most body)
line_of None body s count sum counts adds none = absurd (let wrong : Some s ≡ None = none in cc)
line_of (Some m) body s count sum counts adds (t, is, most_is, sums) =
    let same : s ≡ t = same_Some s t is in
    let count_is : count ≡ length (take m body) =
    counts ∙ ap (λ (x : Sum). x.count) same ∙ sums.count ∙ ap (λ n. length (take n body)) most_is in
    let sum_is : sum ≡ sum_of 0 (take m body) =
    adds ∙ ap (λ (x : Sum). x.sum) same ∙ sums.sum ∙ ap (λ n. sum_of 0 (take n body)) most_is in
    λ i. Some (record { count = count_is i; sum = sum_is i })

-- nothing is shown where a body is not
pub none_shown : (end : TxnEnd) (most : Option ℕ) (body : List ℕ) → end ≢ E.Whole
    → None ≡ tap_by end most body
none_shown E.Whole most body other = absurd (other refl)
none_shown _ most body other = refl
