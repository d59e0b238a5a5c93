use Rattle.std.proofs.Common.{map}
use Rattle.reshard_create.proofs.Looking.{along_more, along_then, at_both}
use Rattle.reshard_create.proofs.reopening.Founds.{all_later, all_since}
use Rattle.reshard_create.proofs.reopening.reopen.find_both.Goals as goal

pub returns-clause-found : goal.returns-clause-found
returns-clause-found g c =
    let o = g.W.World.opening in
    let q = c.find_all.new.pass in
    let now = c.find_all-2.new.pass in
    record {
      of_sources = record {
        seats = c.in_ok-sources.ensures.found.seats;
        each =
            all_later o c.args.pass.now q now (map (λ f. (f.member.which, f.mode, f.named)) c.in_ok-sources.sources.items) c.find_all-2.ensures.onward.later
            c.in_ok-sources.ensures.found.each;
      };
      of_targets = record {
        seats = c.in_ok-targets.ensures.found.seats;
        each =
            all_since o c.args.pass.now q now (map (λ f. (f.member.which, f.mode, f.named)) c.in_ok-targets.targets.items) c.find_all.ensures.onward.later
            c.in_ok-targets.ensures.found.each;
      };
    }

pub returns-in_err-sources-clause-looked : goal.returns-in_err-sources-clause-looked
returns-in_err-sources-clause-looked g c = along_more c.args.from.now c.args.into.now c.args.pass.now c.find_all.new.pass c.find_all.ensures.looked

pub returns-in_err-targets-clause-looked : goal.returns-in_err-targets-clause-looked
returns-in_err-targets-clause-looked g c =
    along_then c.args.from.now c.args.into.now c.args.pass.now c.find_all.new.pass c.find_all-2.new.pass c.in_ok-sources.ensures.all c.find_all-2.ensures.looked

pub returns-clause-looked : goal.returns-clause-looked
returns-clause-looked g c =
    along_then c.args.from.now c.args.into.now c.args.pass.now c.find_all.new.pass c.find_all-2.new.pass c.in_ok-sources.ensures.all c.find_all-2.ensures.looked

pub returns-clause-all : goal.returns-clause-all
returns-clause-all g c =
    at_both c.args.from.now c.args.into.now c.args.pass.now c.find_all.new.pass c.find_all-2.new.pass c.in_ok-sources.ensures.all c.in_ok-targets.ensures.all
