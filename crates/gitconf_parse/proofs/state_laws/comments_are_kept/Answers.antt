use Rattle.gitconf_parse.proofs.CommentLaws.{kept_comments, all_comments, sections_comments}
use Rattle.gitconf_parse.proofs.state_laws.comments_are_kept.Goals as goal

pub returns-clause-kept : goal.returns-clause-kept
returns-clause-kept c = kept_comments

pub returns-clause-all : goal.returns-clause-all
returns-clause-all c = all_comments

pub returns-clause-section : goal.returns-clause-section
returns-clause-section c = sections_comments
