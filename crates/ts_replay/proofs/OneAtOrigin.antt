-- By all bytes of a client at most one thing stands at its origin.
use Rattle.std.proofs.Common.{◌≡◌, ◌∙◌, ◌⊎◌, ℕ, ◌<◌, ◌≤◌, List, [], ◌++◌, length, drop, true, false, Option}
use Rattle.std.proofs.Common.{None, Some, inl, inr, sym, ap, subst, arith}
use Rattle.std.proofs.Math.Dec.{leb}
use Rattle.std.proofs.lemmas.Bool.Decides.{leb_tells}
use Rattle.std.proofs.lemmas.Option.{same_Some}
use Rattle.httparse.specs.Grammar as grammar
use Rattle.httparse.proofs.GrammarLemmas.{request_unique}
use Rattle.ts_config.specs.Bodies.{compose_lines, is_early}
use Rattle.ts_config.specs.declared.setup.TransformLine.{TransformLine}
use Rattle.ts_config.proofs.Early.{early_final}
use Rattle.ts_lists.proofs.Fronts.{front_was_there}
use Rattle.ts_replay.specs.AtOrigin.{HasOneAtOrigin, IsWorkOn, StandsAt, carried, early, ended}
use Rattle.ts_replay.specs.AtOrigin.{none_there, nothing}
use Rattle.ts_replay.specs.AtOrigin.{plain, refused}
use Rattle.ts_replay.specs.declared.at_origin.AtOrigin.{AtOrigin}
use Rattle.ts_request.specs.Sent.{sent_head}
use Rattle.ts_request.specs.Upload.{HasUpload, upload_framing}
use Rattle.ts_wire.specs.Body.{BodyOf}
use Rattle.ts_wire.specs.declared.body.BodyState.{BodyState}
use Rattle.ts_wire.specs.declared.body.BodyState.TheVariants as B
use Rattle.ts_wire.specs.declared.framing.Framing.{Framing}
use Rattle.ts_wire.proofs.FrontBody.{body_grows}
use Rattle.ts_wire.proofs.OneBody.{one_body}

-- ---- the lines' work on a body is one

module _ (lines : List TransformLine) (f : Framing) where
  -- the body of all bytes says the same as that of a front on which a line finishes early
  by_front : (front more read body : List ℕ) (s t : BodyState) → BodyOf f front read s
      → is_early lines read ≡ true → BodyOf f (front ++ more) body t
      → compose_lines lines read ≡ compose_lines lines body
  by_front front more read body s t part soon whole =
      let (yet, grown) = body_grows f front more read body s t part whole in
      sym (ap (compose_lines lines) grown ∙ (early_final lines read yet soon).1)

  -- and so do two fronts
  fronts_one : (x y m n read also : List ℕ) (s t : BodyState) → x ++ m ≡ y ++ n → BodyOf f x read s
      → is_early lines read ≡ true → BodyOf f y also t → is_early lines also ≡ true
      → compose_lines lines read ≡ compose_lines lines also
  fronts_one x y m n read also s t same a is b be = by_length (leb_tells (length x) (length y))
    where
      by_length : ((leb (length x) (length y) ≡ true) × (length x ≤ length y))
          ⊎ ((leb (length x) (length y) ≡ false) × (length y < length x))
          → compose_lines lines read ≡ compose_lines lines also
      by_length (inl (tests, within)) =
          let longer = front_was_there y n x m (sym same) within in
          by_front x (drop (length x) y) read also s t a is (subst (λ l. BodyOf f l also t) longer b)
      by_length (inr (tests, within)) =
          let longer = front_was_there x m y n same (omega (arith, within)) in
          sym (by_front y (drop (length y) x) also read t s b be (subst (λ l. BodyOf f l read s) longer a))

  work_one : (bytes a b : List ℕ) → IsWorkOn lines f bytes a → IsWorkOn lines f bytes b → a ≡ b
  work_one bytes a b (ended x e is) (ended y g be) =
      is ∙ ap (compose_lines lines) (one_body f bytes x y B.Ended B.Ended e g).0 ∙ sym be
  work_one bytes a b (ended x e is) (early front more y s text part soon be) =
      is ∙ sym (by_front front more y x s B.Ended part soon (subst (λ l. BodyOf f l x B.Ended) text e))
      ∙ sym be
  work_one bytes a b (early front more x s text part soon is) (ended y e be) =
      is ∙ by_front front more x y s B.Ended part soon (subst (λ l. BodyOf f l y B.Ended) text e) ∙ sym be
  work_one bytes a b (early front more x s text part soon is) (early also others y t text' piece soon' be) =
      is ∙ fronts_one front also more others x y s t (sym text ∙ text') part soon piece soon' ∙ sym be

-- ---- and so is what stands there

-- where there is no head, none is there
no_head : (head : List ℕ) → head ≡ []
    → ◌≡◌ {A = AtOrigin} (record { request = head; upload = None }) none_there
no_head head none = λ i. record { request = none i; upload = None }

-- two uploads of one client end in the same way, and the same bytes stand behind their heads
one_has : (c : List ℕ) (h k : grammar.RequestHead) (f g : Framing) (rest others : List ℕ)
    → HasUpload c h f rest → HasUpload c k g others → (f ≡ g) × (rest ≡ others)
one_has c h k f g rest others has had =
    let same = request_unique c h k rest others has.begins.reads had.begins.reads in (
      same_Some f g (sym has.framed ∙ ap upload_framing same.0 ∙ had.framed),
      same.1,
    )

module _ (lines : List TransformLine) (client head : List ℕ) where
  -- a head with the line that says how such a body is framed, and this behind it
  abbrev with_line : Framing → Option (List ℕ) → AtOrigin
  with_line framing upload = record { request = sent_head framing lines head; upload = upload }

  one_there : (a b : AtOrigin) → StandsAt lines client head a → StandsAt lines client head b → a ≡ b
  one_there a b (nothing none is) (nothing also be) = is ∙ sym be
  one_there a b (nothing none is) (plain lacks be) = is ∙ sym (no_head head none) ∙ sym be
  one_there a b (nothing none is) (carried h f rest work some has accepts on be) = absurd (some none)
  one_there a b (nothing none is) (refused h f rest some has refuses be) = absurd (some none)
  one_there a b (plain lacks is) (nothing none be) = is ∙ no_head head none ∙ sym be
  one_there a b (plain lacks is) (plain also be) = is ∙ sym be
  one_there a b (plain lacks is) (carried h f rest work some has accepts on be) = absurd (lacks h f rest has)
  one_there a b (plain lacks is) (refused h f rest some has refuses be) = absurd (lacks h f rest has)
  one_there a b (carried h f rest work some has accepts on is) (nothing none be) = absurd (some none)
  one_there a b (carried h f rest work some has accepts on is) (plain lacks be) = absurd (lacks h f rest has)
  one_there a b (carried h f rest work some has accepts on is)
      (carried k g others also more had takes too be) =
      let (framing, bytes) = one_has client h k f g rest others has had in
      let works : IsWorkOn lines g others work =
      subst (λ l. IsWorkOn lines g l work) bytes (subst (λ x. IsWorkOn lines x rest work) framing on) in
      is ∙ ap (λ x. with_line x (Some work)) framing
      ∙ ap (λ w. with_line g (Some w)) (work_one lines g others work also works too) ∙ sym be
  one_there a b (carried h f rest work some has accepts on is) (refused k g others more had refuses be) =
      absurd (accepts refuses)
  one_there a b (refused h f rest some has refuses is) (nothing none be) = absurd (some none)
  one_there a b (refused h f rest some has refuses is) (plain lacks be) = absurd (lacks h f rest has)
  one_there a b (refused h f rest some has refuses is) (carried k g others work more had accepts on be) =
      absurd (accepts refuses)
  one_there a b (refused h f rest some has refuses is) (refused k g others more had also be) =
      is ∙ ap (λ x. with_line x None) (one_has client h k f g rest others has had).0 ∙ sym be

pub one_at_origin : HasOneAtOrigin
one_at_origin lines client head a b x y = one_there lines client head a b x y
