-- The cache finds what the lists have.
use Rattle.robots_verdict.specs.Answer.{said}
use Rattle.path_normal.specs.PageText.{authority_of}
use Rattle.gate_history.proofs.Looking.{judges_expired, judges_in_force, judges_unknown}
use Rattle.gate_history.proofs.ruling.decide.Goals as goal

pub returns-in-Unknown : goal.returns-in-Unknown
returns-in-Unknown c = λ answers turns tells.
    judges_unknown c.args.cache.now answers turns tells c.authority.result.now (authority_of c.args.url.now) c.args.token.now c.args.url.now c.authority.ensures.value c.args.moment c.in-Unknown.ensures

pub returns-in-Expired : goal.returns-in-Expired
returns-in-Expired c = λ answers turns tells.
    judges_expired c.args.cache.now answers turns tells c.authority.result.now (authority_of c.args.url.now) c.args.token.now c.args.url.now c.authority.ensures.value c.args.moment c.in-Expired.ensures

pub returns-in-InForce : goal.returns-in-InForce
returns-in-InForce c = λ answers turns tells.
    judges_in_force c.args.cache.now answers turns tells c.authority.result.now (authority_of c.args.url.now) c.args.token.now c.args.url.now c.authority.ensures.value c.args.moment
    (said c.in-InForce.answer.now) c.says.result c.in-InForce.ensures.0 c.in-InForce.ensures.1 c.says.ensures
