use Rattle.tg_could.proofs.separation.led.led_from.Goals as goal

pub loop-led-preserved : goal.loop-led-preserved
loop-led-preserved c g picture = c.in_ok-goes_on.ensures.led g picture (c.loop-led.invariant g picture)

pub returns-clause-led : goal.returns-clause-led
returns-clause-led c g picture = c.in_ok-goes_on.ensures.led g picture (c.loop-led.invariant g picture)
