use Rattle.exchange.proofs.Questions.{activation_known, deactivation_known, interrogation_known}
use Rattle.exchange.proofs.question.is_known.Goals as goal

pub returns-then-operation-eq-ACTIVATIONVALUE : goal.returns-then-operation-eq-ACTIVATIONVALUE
returns-then-operation-eq-ACTIVATIONVALUE c = activation_known c.args.operation c.ranges.operation c.if-operation-eq-ACTIVATIONVALUE.true

pub returns-then-operation-eq-DEACTIVATIONVALUE : goal.returns-then-operation-eq-DEACTIVATIONVALUE
returns-then-operation-eq-DEACTIVATIONVALUE c =
    deactivation_known c.args.operation c.ranges.operation c.if-operation-eq-DEACTIVATIONVALUE.true

pub returns : goal.returns
returns c =
    interrogation_known c.args.operation c.ranges.operation c.if-operation-eq-ACTIVATIONVALUE.false c.if-operation-eq-DEACTIVATIONVALUE.false
