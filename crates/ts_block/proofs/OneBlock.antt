-- All bytes of both sides have at most one block.
use Rattle.std.proofs.Common.{◌≡◌, ℕ, ◌<◌, ◌≤◌, List, ◌++◌, length, drop, sym, ap, subst, ◌∙◌, ◌⊎◌, inl, inr, arith, Bool, true, false, Result, Ok, Err}
use Rattle.std.proofs.Math.Dec.{leb}
use Rattle.std.proofs.lemmas.Bool.Decides.{leb_tells}
use Rattle.ts_lists.proofs.Fronts.{front_was_there}
use Rattle.ts_config.specs.declared.setup.Setup.{Setup}
use Rattle.ts_config.specs.declared.setup.TransformLine.{TransformLine}
use Rattle.ts_config.specs.Bodies.{compose_lines, is_early}
use Rattle.ts_config.proofs.Early.{early_final}
use Rattle.ts_hooks.specs.declared.txn_end.TxnEnd.TheVariants as E
use Rattle.ts_wire.specs.declared.heads.RequestHead.{RequestHead}
use Rattle.ts_wire.specs.declared.heads.ResponseHead.{ResponseHead}
use Rattle.ts_wire.specs.declared.framing.Framing.{Framing}
use Rattle.ts_wire.specs.declared.framing.Framing.TheVariants as F
use Rattle.ts_wire.specs.declared.body.BodyState.{BodyState}
use Rattle.ts_wire.specs.declared.body.BodyState.TheVariants as B
use Rattle.ts_wire.specs.Body.{BodyOf, IsCutShort}
use Rattle.ts_wire.specs.Check.{check, plugin_host}
use Rattle.ts_wire.proofs.OneBody.{one_body}
use Rattle.ts_wire.proofs.FrontBody.{body_grows}
use Rattle.ts_block.specs.Rules.{is_denied}
use Rattle.ts_block.specs.Relayed.{framing_of}
use Rattle.ts_block.specs.Heads.{FinalHead, is_refused_status}
use Rattle.ts_block.specs.Block.{LacksAnswer, no_final, bad_status, faulty, IsGood, EndsWith, relayed_block}
use Rattle.ts_block.specs.Block.{request_text, body_lines, BodySays, ended, early, cut, bad, AnswerSays, lacking}
use Rattle.ts_block.specs.Block.{passed_on, DialSays, DenySays, VerdictSays, IsBlock, silent, no_head, asked, EarlyIsOfAll}
use Rattle.ts_block.specs.declared.block.Block.{Block}
use Rattle.ts_block.proofs.OneHead.{one_request, one_final, true_not_false}

-- ---- how a body ends

ended_unfinished : B.Ended ≡ B.Unfinished → ⊥
ended_unfinished e = absurd (cc)

ended_bad : B.Ended ≡ B.Bad → ⊥
ended_bad e = absurd (cc)

unfinished_bad : B.Unfinished ≡ B.Bad → ⊥
unfinished_bad e = absurd (cc)

ends_one : (f : Framing) (bytes x y : List ℕ) → EndsWith f bytes x → EndsWith f bytes y → x ≡ y
ends_one f bytes x y (inl a) (inl b) = (one_body f bytes x y B.Ended B.Ended a b).0
ends_one f bytes x y (inl a) (inr (is, b)) = (one_body f bytes x y B.Ended B.Unfinished a b).0
ends_one f bytes x y (inr (is, a)) (inl b) = (one_body f bytes x y B.Unfinished B.Ended a b).0
ends_one f bytes x y (inr (is, a)) (inr (also, b)) = (one_body f bytes x y B.Unfinished B.Unfinished a b).0

ends_cut : (f : Framing) (bytes x y : List ℕ) → EndsWith f bytes x → IsCutShort f bytes y → ⊥
ends_cut f bytes x y (inl a) (b, other) = ended_unfinished (one_body f bytes x y B.Ended B.Unfinished a b).1
ends_cut f bytes x y (inr (is, a)) (b, other) = other is

ends_bad : (f : Framing) (bytes x y : List ℕ) → EndsWith f bytes x → BodyOf f bytes y B.Bad → ⊥
ends_bad f bytes x y (inl a) b = ended_bad (one_body f bytes x y B.Ended B.Bad a b).1
ends_bad f bytes x y (inr (is, a)) b = unfinished_bad (one_body f bytes x y B.Unfinished B.Bad a b).1

cut_bad : (f : Framing) (bytes x y : List ℕ) → IsCutShort f bytes x → BodyOf f bytes y B.Bad → ⊥
cut_bad f bytes x y (a, other) b = unfinished_bad (one_body f bytes x y B.Unfinished B.Bad a b).1

-- the body of all bytes says the same as that of a front on which a line finishes early
by_front : (ls : List TransformLine) (f : Framing) (front more read body : List ℕ) (s t : BodyState)
    → BodyOf f front read s → is_early ls read ≡ true → BodyOf f (front ++ more) body t
    → (is_early ls body ≡ true) × (compose_lines ls read ≡ compose_lines ls body)
by_front ls f front more read body s t part is whole =
    let (yet, grown) = body_grows f front more read body s t part whole in
    let final = early_final ls read yet is in
    (ap (is_early ls) grown ∙ final.0, sym (ap (compose_lines ls) grown ∙ final.1))

-- and so do two fronts
fronts_one : (ls : List TransformLine) (f : Framing) (x y m n read also : List ℕ) (s t : BodyState)
    → x ++ m ≡ y ++ n → BodyOf f x read s → is_early ls read ≡ true → BodyOf f y also t
    → is_early ls also ≡ true → compose_lines ls read ≡ compose_lines ls also
fronts_one ls f x y m n read also s t same a is b be = by_length (leb_tells (length x) (length y))
  where
    by_length : ((leb (length x) (length y) ≡ true) × (length x ≤ length y))
        ⊎ ((leb (length x) (length y) ≡ false) × (length y < length x))
        → compose_lines ls read ≡ compose_lines ls also
    by_length (inl (tests, within)) =
        let longer = front_was_there y n x m (sym same) within in
        (by_front ls f x (drop (length x) y) read also s t a is (subst (λ l. BodyOf f l also t) longer b)).1
    by_length (inr (tests, within)) =
        let longer = front_was_there x m y n same (omega (arith, within)) in
        sym (by_front ls f y (drop (length y) x) also read t s b be (subst (λ l. BodyOf f l read s) longer a)).1

module _ (setup : Setup) (request : List ℕ) (q : RequestHead) (h : ResponseHead) where
  -- what the lines of the body make of it
  abbrev made : List ℕ → List ℕ
  made body = compose_lines (body_lines setup q h) body

  abbrev sent_whole : List ℕ → Block
  sent_whole x = relayed_block setup request q h E.Whole x

  -- a body on which no line finishes early has no front on which one does
  no_front : (rest front more read body : List ℕ) (s t : BodyState) → rest ≡ front ++ more
      → BodyOf (framing_of q h) front read s → is_early (body_lines setup q h) read ≡ true
      → BodyOf (framing_of q h) rest body t → is_early (body_lines setup q h) body ≡ false → ⊥
  no_front rest front more read body s t is part soon whole late =
      true_not_false (is_early (body_lines setup q h) body)
      (by_front (body_lines setup q h) (framing_of q h) front more read body s t part soon
      (subst (λ x. BodyOf (framing_of q h) x body t) is whole)).0 late

  whole_front : (rest front more read body : List ℕ) (s t : BodyState) → rest ≡ front ++ more
      → BodyOf (framing_of q h) front read s → is_early (body_lines setup q h) read ≡ true
      → BodyOf (framing_of q h) rest body t → made read ≡ made body
  whole_front rest front more read body s t is part soon whole =
      (by_front (body_lines setup q h) (framing_of q h) front more read body s t part soon
      (subst (λ x. BodyOf (framing_of q h) x body t) is whole)).1

  ends_front : (rest front more read body : List ℕ) (s : BodyState) → rest ≡ front ++ more
      → BodyOf (framing_of q h) front read s → is_early (body_lines setup q h) read ≡ true
      → EndsWith (framing_of q h) rest body → made read ≡ made body
  ends_front rest front more read body s is part soon (inl whole) =
      whole_front rest front more read body s B.Ended is part soon whole
  ends_front rest front more read body s is part soon (inr (close, whole)) =
      whole_front rest front more read body s B.Unfinished is part soon whole

  body_one : (rest : List ℕ) (a b : Block)
      → BodySays setup request q h rest a → BodySays setup request q h rest b → a ≡ b
  body_one rest a b (ended x e is) (ended y f be) =
      is ∙ ap (λ z. sent_whole (made z)) (ends_one (framing_of q h) rest x y e f) ∙ sym be
  body_one rest a b (ended x e is) (early front more y s text part soon be) =
      is ∙ ap sent_whole (sym (ends_front rest front more y x s text part soon e)) ∙ sym be
  body_one rest a b (ended x e is) (cut y f late be) = absurd (ends_cut (framing_of q h) rest x y e f)
  body_one rest a b (ended x e is) (bad y f late be) = absurd (ends_bad (framing_of q h) rest x y e f)
  body_one rest a b (early front more x s text part soon is) (ended y f be) =
      is ∙ ap sent_whole (ends_front rest front more x y s text part soon f) ∙ sym be
  body_one rest a b (early front more x s text part soon is) (early also others y t text' piece soon' be) =
      is ∙ ap sent_whole (fronts_one (body_lines setup q h) (framing_of q h) front also more others x y s t
      (sym text ∙ text') part soon piece soon') ∙ sym be
  body_one rest a b (early front more x s text part soon is) (cut y f late be) =
      absurd (no_front rest front more x y s B.Unfinished text part soon f.0 late)
  body_one rest a b (early front more x s text part soon is) (bad y f late be) =
      absurd (no_front rest front more x y s B.Bad text part soon f late)
  body_one rest a b (cut x e late is) (ended y f be) = absurd (ends_cut (framing_of q h) rest y x f e)
  body_one rest a b (cut x e late is) (early front more y s text part soon be) =
      absurd (no_front rest front more y x s B.Unfinished text part soon e.0 late)
  body_one rest a b (cut x e late is) (cut y f also be) = is ∙ sym be
  body_one rest a b (cut x e late is) (bad y f also be) = absurd (cut_bad (framing_of q h) rest x y e f)
  body_one rest a b (bad x e late is) (ended y f be) = absurd (ends_bad (framing_of q h) rest y x f e)
  body_one rest a b (bad x e late is) (early front more y s text part soon be) =
      absurd (no_front rest front more y x s B.Bad text part soon e late)
  body_one rest a b (bad x e late is) (cut y f also be) = absurd (cut_bad (framing_of q h) rest y x f e)
  body_one rest a b (bad x e late is) (bad y f also be) = is ∙ sym be

pub early_of_all : EarlyIsOfAll
early_of_all setup request q h front more read body s t part is whole =
    let same = by_front (body_lines setup q h) (framing_of q h) front more read body s t part is whole in
    (same.0, ap (sent_whole setup request q h) same.1)

-- ---- which answer is made

-- a head that can be passed on is an answer
lacks_good : (q : RequestHead) (o : List ℕ) (h : ResponseHead) (rest : List ℕ) → LacksAnswer q o
    → FinalHead o h rest → IsGood q h → ⊥
lacks_good q o h rest (no_final lacks) final good = lacks h rest final
lacks_good q o h rest (bad_status k s other is) final good =
    let same = one_final o k h s rest other final in
    true_not_false (is_refused_status h.status) (subst (λ (x : ResponseHead). is_refused_status
    x.status ≡ true) same.0 is) good.status
lacks_good q o h rest (faulty k s other is) final good =
    let same = one_final o k h s rest other final in
    good.framing (subst (λ (x : ResponseHead). framing_of q x ≡ F.Faulty) same.0 is)

answer_one : (setup : Setup) (request : List ℕ) (q : RequestHead) (o : List ℕ) (a b : Block)
    → AnswerSays setup request q o a → AnswerSays setup request q o b → a ≡ b
answer_one setup request q o a b (lacking l is) (lacking m be) = is ∙ sym be
answer_one setup request q o a b (lacking l is) (passed_on h rest final good body) =
    absurd (lacks_good q o h rest l final good)
answer_one setup request q o a b (passed_on h rest final good body) (lacking l is) =
    absurd (lacks_good q o h rest l final good)
answer_one setup request q o a b (passed_on h rest final good body) (passed_on k s other fine text) =
    let same = one_final o k h s rest other final in
    body_one setup request q h rest a b body
    (subst (λ (x : List ℕ). BodySays setup request q h x b) same.1
    (subst (λ (x : ResponseHead). BodySays setup request q x s b) same.0 text))

module _ (setup : Setup) (dialed : Bool) (refuses : Type 0) (o : List ℕ) where
  dial_one : (d : Bool) (request : List ℕ) (q : RequestHead) (a b : Block)
      → DialSays setup dialed refuses o d request q a → DialSays setup dialed refuses o d request q b → a ≡ b
  dial_one false request q a b is be = is ∙ sym be
  dial_one true request q a b (inl (r, is)) (inl (s, be)) = is ∙ sym be
  dial_one true request q a b (inl (r, is)) (inr (free, says)) = absurd (free r)
  dial_one true request q a b (inr (free, says)) (inl (r, is)) = absurd (free r)
  dial_one true request q a b (inr (free, x)) (inr (never, y)) = answer_one setup request q o a b x y

  deny_one : (d : Bool) (request : List ℕ) (q : RequestHead) (a b : Block)
      → DenySays setup dialed refuses o d request q a → DenySays setup dialed refuses o d request q b → a ≡ b
  deny_one true request q a b is be = is ∙ sym be
  deny_one false request q a b x y = dial_one dialed request q a b x y

  verdict_one : (r : Result (List ℕ × List ℕ) ℕ) (q : RequestHead) (a b : Block)
      → VerdictSays setup dialed refuses o r q a → VerdictSays setup dialed refuses o r q b → a ≡ b
  verdict_one (Err status) q a b is be = is ∙ sym be
  verdict_one (Ok (target, host)) q a b x y =
      deny_one (is_denied setup.plugins.items (plugin_host host)) (request_text setup q target host) q a b x y

  pub one_block : (c : List ℕ) (a b : Block) → IsBlock setup dialed refuses o c a
      → IsBlock setup dialed refuses o c b → a ≡ b
  one_block c a b (silent e is) (silent f be) = is ∙ sym be
  one_block c a b (silent e is) (no_head n l be) = absurd (n e)
  one_block c a b (silent e is) (asked n q r has says) = absurd (n e)
  one_block c a b (no_head n l is) (silent e be) = absurd (n e)
  one_block c a b (no_head n l is) (no_head m k be) = is ∙ sym be
  one_block c a b (no_head n l is) (asked m q r has says) = absurd (l has.parsed r has.begins)
  one_block c a b (asked n q r has says) (silent e be) = absurd (n e)
  one_block c a b (asked n q r has says) (no_head m l be) = absurd (l has.parsed r has.begins)
  one_block c a b (asked n q r has x) (asked m p s had y) =
      let same = one_request c p q s r had has in
      verdict_one (check q) q a b x (subst (λ (t : RequestHead). VerdictSays setup dialed refuses o (check t)
      t b) same.0 y)
