-- The place of the client is one of the server's, and is roused; or there is none.
use Rattle.std.proofs.Common.{refl, inl, inr}
use Rattle.ts_group.specs.declared.either.EitherTag.TheVariants as tag
use Rattle.ts_serve.proofs.Settled.{of_answer}
use Rattle.ts_serve.proofs.ready.rouse_client.Goals as goal

pub try_rouse-requires-clause-tag : goal.try_rouse-requires-clause-tag
try_rouse-requires-clause-tag g c =
    let place = c.requires.places.0 c.in-Some.k c.in-Some.ensures.some.0 in
    (tag.One place.0, place.1, refl)

pub returns-in_default-clause-settled : goal.returns-in_default-clause-settled
returns-in_default-clause-settled g c = λ done. inl (c.place_of.ensures.none c.in_default.is)

pub returns-clause-settled : goal.returns-clause-settled
returns-clause-settled g c =
    of_answer c.try_rouse.result _ _
    (λ done roused is. inr (c.in-Some.k, c.in-Some.ensures.some, roused is)) c.try_rouse.ensures.roused
