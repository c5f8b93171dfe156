use Rattle.ts_stock.proofs.Bits.{less_smaller, less_others}
use Rattle.ts_stock.proofs.places.less.Goals as goal

pub returns : goal.returns
returns c = record {
  fewer = less_smaller c.args.places c.args.place c.ranges.places.fits c.requires.within c.requires.there;
  others = less_others c.args.places c.args.place c.ranges.places.fits c.requires.within c.requires.there;
}
