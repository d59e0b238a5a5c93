use Rattle.admin.proofs.RouterHomes.{begins_at_home}
use Rattle.test_engine.proofs.soak.world.play_over.Goals as goal

pub play_opened-requires-clause-home : goal.play_opened-requires-clause-home
play_opened-requires-clause-home g c κs within =
    begins_at_home c.args.schema c.in-Ok.engine c.args.ranges.now _ c.in-Ok.ensures.administrator c.in-Ok.ensures.schema
