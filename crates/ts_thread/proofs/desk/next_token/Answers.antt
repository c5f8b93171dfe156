use Rattle.std.proofs.Common.{refl, sym, ◌∙◌, inl}
use Rattle.ts_thread.proofs.Tokens.{first_named}
use Rattle.ts_thread.proofs.desk.next_token.Goals as goal

pub returns-in-Some-clause-token : goal.returns-in-Some-clause-token
returns-in-Some-clause-token g c =
    let is = sym c.take_due.ensures.token ∙ c.in-Some.is in
    record {
      names = first_named c.args.groups c.args.moment c.args.desk.now.wheel c.in-Some.token c.requires.wheel
          is;
      wheel = c.take_due.ensures.rest;
      seat = refl;
      empties = refl;
      first = inl (is, refl);
    }
