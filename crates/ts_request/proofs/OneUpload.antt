-- One list is shown of the bytes of a client, and they have at most one upload.
use Rattle.std.proofs.Common.{◌≡◌, Some, ap, sym, subst, ◌∙◌}
use Rattle.httparse.specs.Grammar.{print_request}
use Rattle.httparse.proofs.GrammarLemmas.{request_unique}
use Rattle.ts_wire.specs.Body.{BodyOf}
use Rattle.ts_wire.proofs.OneBody.{one_body}
use Rattle.ts_request.specs.Upload.{HasOneShown, HasOneUpload, other, upload, upload_framing, without_body}

pub one_shown : HasOneShown
one_shown c a b (upload h f rest has is) (upload k g others had was) =
    let same = (request_unique c h k rest others has.begins.reads had.begins.reads).0 in
    is ∙ ap (λ x. print_request (without_body x)) same ∙ sym was
one_shown c a b (upload h f rest has is) (other lacks was) = absurd (lacks h f rest has)
one_shown c a b (other lacks is) (upload k g others had was) = absurd (lacks k g others had)
one_shown c a b (other lacks is) (other none was) = is ∙ sym was

pub one_upload : HasOneUpload
one_upload c f g a b s t x y =
    let same = request_unique c x.head y.head x.rest y.rest x.has.begins.reads y.has.begins.reads in
    let framed : Some f ≡ Some g = sym x.has.framed ∙ ap upload_framing same.0 ∙ y.has.framed in
    let framing : f ≡ g = cc in
    let body : BodyOf g x.rest a s = subst (λ k. BodyOf k x.rest a s) framing x.body_is in
    let bodies = one_body g x.rest a b s t body (subst (λ r. BodyOf g r b t) (sym same.1) y.body_is) in
    (framing, bodies.0, bodies.1)
