mod ExpressionHeights
mod ExpressionLists
mod Parts
mod RestHeights
