pub mod CommentContracts
pub mod LineCommentContracts
